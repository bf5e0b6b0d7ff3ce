use Rattle.std.proofs.Common.{◌≡◌, inl, List, Some, None, sym, subst}
use Rattle.model_tree.specs.Signature.{HasType}
use Rattle.model_meaning.specs.Values.{Printed}
use Rattle.fast_syntax.specs.Plain.{plain_x}
use Rattle.fast_eval.proofs.Keeping.{known_grown, on_err}
use Rattle.tree_values.specs.declared.stops.ValueStop.TheVariants.{Stopped}
use Rattle.tree_values.specs.Forms.{IsTreeOn}
use Rattle.tree_values.specs.Members.{IsMemberStop}
use Rattle.tree_values.specs.Owed.{OwesNothing}
use Rattle.tree_values.specs.Trees.{meant, Tells}
use Rattle.tree_values.specs.Values.{items_in}
use Rattle.tree_values.proofs.Sided.{type_is, input_is, left_stops, is_member}
use Rattle.tree_values.proofs.Stopped.{stop_language}
use Rattle.tree_values.proofs.members.member.Goals as goal

pub unreachable-requires : goal.unreachable-requires
unreachable-requires c = let no : None ≡ Some c.requires.made.0 = c.in_default.ensures c.requires.made.0 (inl c.requires.made.1) in absurd (cc)

pub value-requires-clause-made : goal.value-requires-clause-made
value-requires-clause-made c =
    let items = items_in c.args.given.now in
    subst (λ s. IsTreeOn items s (plain_x c.args.x.now)) (type_is c.in-Some.of.now c.requires.made.0 (c.in-Some.ensures c.requires.made.0 (inl c.requires.made.1))) c.requires.made.2

pub belongs-requires-clause-known : goal.belongs-requires-clause-known
belongs-requires-clause-known c = known_grown (items_in c.args.given.now) c.args.built.now c.value.new.built c.value.ensures.grown (plain_x c.args.y.now) c.requires.also_known

pub belongs-requires-clause-typed : goal.belongs-requires-clause-typed
belongs-requires-clause-typed c =
    let items = items_in c.args.given.now in
    subst (λ s. HasType s (meant c.in_ok-tree.tree)) (sym (input_is items c.in-Some.of.now c.requires.made.0 (plain_x c.args.y.now) c.requires.made.1 (c.in-Some.ensures c.requires.made.0 (inl c.requires.made.1)))) (c.in_ok-tree.ensures {u = tt}).typed

pub returns-in_err-tree-clause-stop : goal.returns-in_err-tree-clause-stop
returns-in_err-tree-clause-stop c =
    let g = c.args.given.now in
    let x = plain_x c.args.x.now in
    let y = plain_x c.args.y.now in
    let s = c.in_err-tree.field-0.0 in
    on_err (λ e. (printed : List Printed) → Tells g.trees.now printed → IsMemberStop (items_in g) printed g.limit x y e) c.from_residual.result s c.from_residual.ensures.1
    (λ printed told. left_stops (items_in g) c.in-Some.of.now c.requires.made.0 y c.requires.made.1 (c.in-Some.ensures c.requires.made.0 (inl c.requires.made.1)) printed g.limit x s (c.in_err-tree.ensures.stop printed told))

pub returns-in_err-inside-clause-stop : goal.returns-in_err-inside-clause-stop
returns-in_err-inside-clause-stop c =
    let g = c.args.given.now in
    let x = plain_x c.args.x.now in
    let y = plain_x c.args.y.now in
    let s = c.in_err-inside.field-0.0 in
    on_err (λ e. (printed : List Printed) → Tells g.trees.now printed → IsMemberStop (items_in g) printed g.limit x y e) c.from_residual-in_err-inside.result (Stopped s) c.from_residual-in_err-inside.ensures.1
    (λ printed told. stop_language (items_in g) printed g.limit x y s c.in_err-inside.ensures.stop)

pub returns-clause-member : goal.returns-clause-member
returns-clause-member c = λ printed told.
    (let g = c.args.given.now in
    is_member (items_in g) c.in-Some.of.now c.requires.made.0 (plain_x c.args.y.now) c.requires.made.1 (c.in-Some.ensures c.requires.made.0 (inl c.requires.made.1)) printed (plain_x c.args.x.now)
    (record { tree = c.in_ok-tree.tree; inside = c.in_ok-inside.inside }) (c.in_ok-tree.ensures.value printed told) c.in_ok-inside.ensures.inside)

pub returns-clause-owed : goal.returns-clause-owed
returns-clause-owed c = λ printed told.
    (let items = items_in c.args.given.now in
    let y = plain_x c.args.y.now in
    subst (λ s. OwesNothing items printed s (plain_x c.args.x.now)) (sym (input_is items c.in-Some.of.now c.requires.made.0 y c.requires.made.1 (c.in-Some.ensures c.requires.made.0 (inl c.requires.made.1)))) (c.in_ok-tree.ensures.owed printed told))

pub returns-clause-typed : goal.returns-clause-typed
returns-clause-typed c =
    let items = items_in c.args.given.now in
    subst (λ s. HasType s (meant c.in_ok-tree.tree)) (sym (input_is items c.in-Some.of.now c.requires.made.0 (plain_x c.args.y.now) c.requires.made.1 (c.in-Some.ensures c.requires.made.0 (inl c.requires.made.1)))) (c.in_ok-tree.ensures {u = tt}).typed
