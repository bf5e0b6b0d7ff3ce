use Rattle.std.proofs.Common.{rules, ◌≡◌, ◌≤◌, List, [], ◌∷◌, length, map, reverse, None, refl, sym, ap, ap₂, subst, ◌∙◌, arith}
use Rattle.std.proofs.lemmas.Result.{IfOk-weaker, IfErr-weaker}
use Rattle.fast_fault.specs.declared.place.Pos.{Pos}
use Rattle.model_tree.specs.Limits.{most_nodes}
use Rattle.model_tree.specs.Signature.{PlainSignature, HasType}
use Rattle.model_grammar.specs.declared.Op2.TheVariants.{Apply}
use Rattle.model_meaning.specs.Meaning.{input_type, output_type}
use Rattle.model_grammar.specs.Syntax.{one, two, literal}
use Rattle.model_meaning.specs.Values.{Printed, IsValue}
use Rattle.fast_syntax.specs.declared.expressions.Expr as code_label
use Rattle.fast_syntax.specs.declared.items.X as code
use Rattle.fast_syntax.specs.View.{plain_name}
use Rattle.fast_syntax.specs.Plain.{plain_expr, plain_x}
use Rattle.fast_syntax.specs.Slices.{plain_children}
use Rattle.fast_syntax.proofs.Rows.{plain_literal}
use Rattle.fast_eval.specs.Forms.{IsMadeOn, IsMadeFrom, IsTransKnown}
use Rattle.fast_eval.proofs.Keeping.{on_err, more_twice, trans_known_grown}
use Rattle.tree_values.specs.declared.nodes.OpenNode.{OpenNode}
use Rattle.tree_values.specs.declared.stops.ValueStop.TheVariants.{TooLarge}
use Rattle.tree_values.specs.Forms.{IsTreeOn, IsTreeKnown}
use Rattle.tree_values.specs.Nodes.{IsFirst, IsBegun, IsReached}
use Rattle.tree_values.specs.Owed.{OwesNothing}
use Rattle.tree_values.specs.Stops.{IsValueStop, IsStopTyped}
use Rattle.tree_values.specs.Applied.{HasOutput, IsOutputStop}
use Rattle.tree_values.specs.Trees.{meant, Tells}
use Rattle.tree_values.specs.Values.{items_in, type_in, left_of, HasLeast, HasValue}
use Rattle.tree_values.proofs.Choices.{applied_value, input_is, output_is, only_apply}
use Rattle.tree_values.proofs.Evaluated.{value_is, value_typed, value_in_limits, only_find, named_value, found_value}
use Rattle.tree_values.proofs.Folding.{tree_known_grown}
use Rattle.tree_values.proofs.Nesting.{turned, inside_on, inside_known, inside_lighter, inside_room, stop_outside, around_none, after_next, around_next, reached_begun, closed_declared, closed_labelled, reached_closed, stop_unclosed, popped, reached_joined, joined_below, joined_value, next_room}
use Rattle.tree_values.proofs.Stopped.{stop_inside, stop_output, stop_large, output_typed}
use Rattle.tree_values.proofs.Weights.{weight, weights, burden_here, burdens, begun_lighter}
use Rattle.tree_values.proofs.values.+evaluate.Goals as goal

pub begin-found-requires-clause-made : goal.begin-found-requires-clause-made
begin-found-requires-clause-made t c =
    let items = items_in c.args.given.now in
    let of = c.args.of.now in
    let on = subst (IsTreeOn items of) (ap plain_x c.in-One.is) c.requires.made in
    (of, subst (λ v. IsMadeOn items of (plain_x v)) (sym c.deref.ensures) (only_find items of c.in-One.field-0 c.in-One.field-1 (plain_x c.in-One.inside.value) on).1)

pub begin-apply-requires : goal.begin-apply-requires
begin-apply-requires t c =
    let items = items_in c.args.given.now in
    let of = c.args.of.now in
    let trees = c.args.given.now.trees.now in
    let b = c.args.built.now in
    let is = ap plain_x c.in-Two.is in
    let f = c.in-Two.f.value in
    let x = c.in-Two.inside.value in
    let on = (only_apply items of c.in-Two.field-0 c.in-Two.field-1 (plain_x f) (plain_x x) (subst (IsTreeOn items of) is c.requires.made)).1 in
    let known = subst (IsTreeKnown items trees b) is c.requires.known in
    let first = sym c.deref-in-Two.ensures in
    let second = sym c.deref-in-Two-2.ensures in
    let whole = ap weight is in
    let inside = ap (λ v. weight (plain_x v)) c.deref-in-Two-2.ensures in (
      omega (arith, whole, inside, c.decreases),
      (
        c.requires.given,
        (
          c.requires.built,
          (
            (on.0, of, subst (λ v. IsMadeFrom items on.0 of (plain_x v)) first on.1, subst (λ v. IsTreeOn items on.0 (plain_x v)) second on.2),
            (subst (λ v. IsTransKnown items b (plain_x v)) first known.0, subst (λ v. IsTreeKnown items trees b (plain_x v)) second known.1),
          ),
        ),
      ),
    )

pub begin-returns-in_ok-named-in-Named-clause-begun : goal.begin-returns-in_ok-named-in-Named-clause-begun
begin-returns-in_ok-named-in-Named-clause-begun t c = λ printed told.
    (let g = c.args.given.now in
    let items = items_in g in
    let of = c.args.of.now in
    let is = ap plain_x c.in-Named.is in
    let on = subst (IsTreeOn items of) is c.requires.made in
    let known = subst (IsTreeKnown items g.trees.now c.args.built.now) is c.requires.known in
    subst (λ z. HasValue items printed (type_in g of) z c.args.room c.in_ok-named-in-Named.field-0) (sym is)
    (named_value items of g.trees.now c.requires.given.typed (plain_name c.in-Named.name) on known c.args.room c.in_ok-named-in-Named.field-0 c.in_ok-named-in-Named.ensures printed told))

pub begin-returns-in_ok-found-in-One-clause-begun : goal.begin-returns-in_ok-found-in-One-clause-begun
begin-returns-in_ok-found-in-One-clause-begun t c = λ printed told.
    (let g = c.args.given.now in
    let items = items_in g in
    let of = c.args.of.now in
    let room = c.args.room in
    let v = c.in_ok-found-in-One.field-0 in
    let is = ap plain_x c.in-One.is in
    let x = plain_x c.in-One.inside.value in
    let find = only_find items of c.in-One.field-0 c.in-One.field-1 x (subst (IsTreeOn items of) is c.requires.made) in
    subst (λ z. HasValue items printed (type_in g of) z room v) (sym is)
    (subst (λ op. HasValue items printed (type_in g of) (one op c.in-One.field-1 x) room v) (sym find.0)
    (found_value items of c.in-One.field-1 x find.1 room v (subst (λ y. HasLeast items (plain_x y) room v) c.deref.ensures c.in_ok-found-in-One.ensures.found) printed)))

pub begin-returns-in_ok-apply-in-Two-clause-begun : goal.begin-returns-in_ok-apply-in-Two-clause-begun
begin-returns-in_ok-apply-in-Two-clause-begun t c = λ printed told.
    (let g = c.args.given.now in
    let items = items_in g in
    let of = c.args.of.now in
    let is = ap plain_x c.in-Two.is in
    let place = c.in-Two.field-1 in
    let f = plain_x c.deref-in-Two.result.now in
    let x = plain_x c.deref-in-Two-2.result.now in
    let on = only_apply items of c.in-Two.field-0 place (plain_x c.in-Two.f.value) (plain_x c.in-Two.inside.value) (subst (IsTreeOn items of) is c.requires.made) in
    let made = subst (λ v. IsMadeFrom items on.1.0 of (plain_x v)) (sym c.deref-in-Two.ensures) on.1.1 in
    let at : two Apply place f x ≡ plain_x c.args.x.now =
    ap₂ (λ v w. two Apply place (plain_x v) (plain_x w)) c.deref-in-Two.ensures c.deref-in-Two-2.ensures ∙ (ap (λ op. two op place (plain_x c.in-Two.f.value) (plain_x c.in-Two.inside.value)) (sym on.0) ∙ sym is) in
    subst (λ z. HasValue items printed (type_in g of) z c.args.room c.in_ok-apply-in-Two.field-0) at
    (c.in_ok-apply-in-Two.ensures.value place (type_in g of) printed told (output_is items f on.1.0 of made of refl)))

pub begin-returns-in_err-apply-in-Two-clause-stop : goal.begin-returns-in_err-apply-in-Two-clause-stop
begin-returns-in_err-apply-in-Two-clause-stop t c =
    let g = c.args.given.now in
    let items = items_in g in
    let of = c.args.of.now in
    let is = ap plain_x c.in-Two.is in
    let place = c.in-Two.field-1 in
    let f = plain_x c.deref-in-Two.result.now in
    let x = plain_x c.deref-in-Two-2.result.now in
    let on = only_apply items of c.in-Two.field-0 place (plain_x c.in-Two.f.value) (plain_x c.in-Two.inside.value) (subst (IsTreeOn items of) is c.requires.made) in
    let at : two Apply place f x ≡ plain_x c.args.x.now =
    ap₂ (λ v w. two Apply place (plain_x v) (plain_x w)) c.deref-in-Two.ensures c.deref-in-Two-2.ensures ∙ (ap (λ op. two op place (plain_x c.in-Two.f.value) (plain_x c.in-Two.inside.value)) (sym on.0) ∙ sym is) in
    let s = c.in_err-apply-in-Two.field-0.0 in
    on_err (λ e. (printed : List Printed) → Tells g.trees.now printed → IsValueStop items printed g.limit (type_in g of) (plain_x c.args.x.now) e) c.from_residual-in_err-apply-in-Two.result s c.from_residual-in_err-apply-in-Two.ensures.1
    (λ printed told. subst (λ z. IsValueStop items printed g.limit (type_in g of) z s) at (c.in_err-apply-in-Two.ensures.stop place (type_in g of) printed told))

pub begin-returns-in-Literal-clause-begun : goal.begin-returns-in-Literal-clause-begun
begin-returns-in-Literal-clause-begun t c =
    let name = plain_name c.in-Literal.name in
    let is : literal name (map plain_expr c.deref-in-Literal.result.now) (plain_children c.deref-in-Literal-2.result.now) ≡ plain_x c.args.x.now =
    ap₂ (λ (ls : List code_label.Expr) (ys : List code.X). literal name (map plain_expr ls) (plain_children ys)) c.deref-in-Literal.ensures.value c.deref-in-Literal-2.ensures.value
    ∙ sym (ap plain_x c.in-Literal.is ∙ plain_literal c.in-Literal.name c.in-Literal.labels c.in-Literal.xs) in
    subst (λ z. IsFirst z c.args.room c.opened.result) is c.opened.ensures

-- ---- literals within one another

pub evaluate-nodes-init : goal.evaluate-nodes-init
evaluate-nodes-init t c =
    let g = c.args.given.now in
    let of = c.args.of.now in
    let x = plain_x c.args.x.now in
    let room = c.args.room in
    record {
      built = c.begin.ensures.built;
      grown = c.begin.ensures.grown;
      reached = subst (λ (ns : List OpenNode). IsReached g of x room (reverse ns) c.in_ok-here.here) (sym c.new-around.ensures.items) (reached_begun g of x room [] x room (around_none g of x room) c.in_ok-here.here c.in_ok-here.ensures.begun);
    }

pub evaluate-left-space-requires : goal.evaluate-left-space-requires
evaluate-left-space-requires t c =
    let g = c.args.given.now in
    let of = c.args.of.now in
    let x = plain_x c.args.x.now in
    let room = c.args.room in
    next_room g of x room (reverse c.nodes.around.items) c.in-Part.node c.nodes.here c.nodes.invariant.reached c.in-Part.is c.requires.given

pub evaluate-begin-requires-in-Some : goal.evaluate-begin-requires-in-Some
evaluate-begin-requires-in-Some t c =
    let g = c.args.given.now in
    let items = items_in g in
    let of = c.args.of.now in
    let x = plain_x c.args.x.now in
    let room = c.args.room in
    let ns = reverse c.nodes.around.items in
    let n = c.in-Part.node in
    let m = after_next n c.in-Some.rest in
    let y = c.in-Some.next.now in
    let is : n.rest.now ≡ y ∷ c.in-Some.rest.now = search rules in
    let around = around_next g of x room ns n y c.in-Some.rest c.nodes.here c.nodes.invariant.reached c.in-Part.is is in
    let left = left_of n.room n.below in
    let light = inside_lighter g of x room (m ∷ ns) (plain_x y) left around in
    let made = inside_on g of x room (m ∷ ns) (plain_x y) left around c.requires.made in
    let known = inside_known g of x room c.nodes.built (m ∷ ns) (plain_x y) left around (tree_known_grown items g.trees.now c.args.built.now c.nodes.built c.nodes.invariant.grown x c.requires.known) in
    let small = subst (λ r. r ≤ most_nodes) (sym c.left-space.ensures) (inside_room g of x room most_nodes c.requires.small (m ∷ ns) (plain_x y) left around) in
    (omega (arith, light, c.decreases), (c.requires.given, (c.nodes.invariant.built, (made, (known, small)))))

pub evaluate-returns-in_err-here-in-Some-clause-stop : goal.evaluate-returns-in_err-here-in-Some-clause-stop
evaluate-returns-in_err-here-in-Some-clause-stop t c =
    let g = c.args.given.now in
    let of = c.args.of.now in
    let x = plain_x c.args.x.now in
    let room = c.args.room in
    let ns = reverse c.nodes.around.items in
    let n = c.in-Part.node in
    let m = after_next n c.in-Some.rest in
    let y = c.in-Some.next.now in
    let is : n.rest.now ≡ y ∷ c.in-Some.rest.now = search rules in
    let around = around_next g of x room ns n y c.in-Some.rest c.nodes.here c.nodes.invariant.reached c.in-Part.is is in
    let s = c.in_err-here-in-Some.field-0.0 in
    on_err (λ e. (printed : List Printed) → Tells g.trees.now printed → IsValueStop (items_in g) printed g.limit (type_in g of) x e) c.from_residual-in_err-here-in-Some.result s c.from_residual-in_err-here-in-Some.ensures.1
    (λ printed told. stop_outside g of x room printed s (m ∷ ns) (plain_x y) (left_of n.room n.below) around (c.in_err-here-in-Some.ensures.stop printed told))

pub evaluate-nodes-smaller-in-Some : goal.evaluate-nodes-smaller-in-Some
evaluate-nodes-smaller-in-Some t c =
    let g = c.args.given.now in
    let of = c.args.of.now in
    let n = c.in-Part.node in
    let m = after_next n c.in-Some.rest in
    let y = c.in-Some.next.now in
    let is : n.rest.now ≡ y ∷ c.in-Some.rest.now = search rules in
    let here = c.in_ok-here-in-Some.here in
    let light = begun_lighter g of (plain_x y) c.left-space.result here c.in_ok-here-in-Some.ensures.begun in
    let behind = ap burdens (turned c.nodes.around.items c.push.new.self.items m c.in_ok-push-in-Some.ensures.items) in
    let before = ap burden_here c.in-Part.is in
    let children = ap (λ (zs : List code.X). weights (plain_children zs)) is in
    omega (arith, light, behind, before, children)

pub evaluate-nodes-preserved-in-Some : goal.evaluate-nodes-preserved-in-Some
evaluate-nodes-preserved-in-Some t c =
    let g = c.args.given.now in
    let of = c.args.of.now in
    let x = plain_x c.args.x.now in
    let room = c.args.room in
    let ns = reverse c.nodes.around.items in
    let n = c.in-Part.node in
    let m = after_next n c.in-Some.rest in
    let y = c.in-Some.next.now in
    let is : n.rest.now ≡ y ∷ c.in-Some.rest.now = search rules in
    let around = around_next g of x room ns n y c.in-Some.rest c.nodes.here c.nodes.invariant.reached c.in-Part.is is in
    let here = c.in_ok-here-in-Some.here in
    let begun = subst (λ r. IsBegun g of (plain_x y) r here) c.left-space.ensures c.in_ok-here-in-Some.ensures.begun in
    record {
      built = c.begin-in-Some.ensures.built;
      grown = more_twice c.args.built.now c.nodes.built c.begin-in-Some.new.built c.nodes.invariant.grown c.begin-in-Some.ensures.grown;
      reached = subst (λ ls. IsReached g of x room ls here) (sym (turned c.nodes.around.items c.push.new.self.items m c.in_ok-push-in-Some.ensures.items)) (reached_begun g of x room (m ∷ ns) (plain_x y) (left_of n.room n.below) around here begun);
    }

pub evaluate-closed-requires-clause-declared : goal.evaluate-closed-requires-clause-declared
evaluate-closed-requires-clause-declared t c =
    let g = c.args.given.now in
    let of = c.args.of.now in
    let x = plain_x c.args.x.now in
    let room = c.args.room in
    let ns = reverse c.nodes.around.items in
    let n = c.in-Part.node in
    let empty : length n.rest.now ≡ 0 = search rules in
    closed_declared g of x room ns n c.nodes.here c.nodes.invariant.reached c.in-Part.is empty c.requires.made

pub evaluate-closed-requires-clause-node : goal.evaluate-closed-requires-clause-node
evaluate-closed-requires-clause-node t c =
    let g = c.args.given.now in
    let of = c.args.of.now in
    let x = plain_x c.args.x.now in
    let room = c.args.room in
    let ns = reverse c.nodes.around.items in
    let n = c.in-Part.node in
    let empty : length n.rest.now ≡ 0 = search rules in
    closed_labelled g of x room ns n c.nodes.here c.nodes.invariant.reached c.in-Part.is empty c.requires.made

pub evaluate-returns-in_err-closed-in-None-clause-stop : goal.evaluate-returns-in_err-closed-in-None-clause-stop
evaluate-returns-in_err-closed-in-None-clause-stop t c =
    let g = c.args.given.now in
    let of = c.args.of.now in
    let x = plain_x c.args.x.now in
    let room = c.args.room in
    let ns = reverse c.nodes.around.items in
    let n = c.in-Part.node in
    let empty : length n.rest.now ≡ 0 = search rules in
    let s = c.in_err-closed-in-None.field-0.0 in
    on_err (λ e. (printed : List Printed) → Tells g.trees.now printed → IsValueStop (items_in g) printed g.limit (type_in g of) x e) c.from_residual-in_err-closed-in-None.result s c.from_residual-in_err-closed-in-None.ensures.1
    (stop_unclosed g of x room ns n c.nodes.here c.nodes.invariant.reached c.in-Part.is empty c.requires.made s c.in_err-closed-in-None.ensures.stop)

pub evaluate-nodes-preserved-in-None : goal.evaluate-nodes-preserved-in-None
evaluate-nodes-preserved-in-None t c =
    let g = c.args.given.now in
    let of = c.args.of.now in
    let x = plain_x c.args.x.now in
    let room = c.args.room in
    let ns = reverse c.nodes.around.items in
    let n = c.in-Part.node in
    let empty : length n.rest.now ≡ 0 = search rules in
    record {
      built = c.nodes.invariant.built;
      grown = c.nodes.invariant.grown;
      reached = reached_closed g of x room ns n c.nodes.here c.nodes.invariant.reached c.in-Part.is empty c.requires.made c.in_ok-closed-in-None.field-0 c.in_ok-closed-in-None.ensures.closed;
    }

pub evaluate-grown-requires-clause-below : goal.evaluate-grown-requires-clause-below
evaluate-grown-requires-clause-below t c =
    let g = c.args.given.now in
    let of = c.args.of.now in
    let x = plain_x c.args.x.now in
    let room = c.args.room in
    let n = c.in-Some-pop.node in
    let ns = reverse c.pop.new.self.items in
    let v = c.in-Whole.value in
    let whole = popped g of x room c.nodes.around.items c.pop.new.self.items n v c.nodes.here c.nodes.invariant.reached c.in-Whole.is c.in-Some-pop.ensures.items in
    joined_below g of x room ns n v whole c.requires.given c.requires.small

pub evaluate-grown-requires-clause-value : goal.evaluate-grown-requires-clause-value
evaluate-grown-requires-clause-value t c =
    let g = c.args.given.now in
    let of = c.args.of.now in
    let x = plain_x c.args.x.now in
    let room = c.args.room in
    let n = c.in-Some-pop.node in
    let ns = reverse c.pop.new.self.items in
    let v = c.in-Whole.value in
    let whole = popped g of x room c.nodes.around.items c.pop.new.self.items n v c.nodes.here c.nodes.invariant.reached c.in-Whole.is c.in-Some-pop.ensures.items in
    joined_value g of x room ns n v whole c.requires.given c.requires.small

pub evaluate-nodes-preserved : goal.evaluate-nodes-preserved
evaluate-nodes-preserved t c =
    let g = c.args.given.now in
    let of = c.args.of.now in
    let x = plain_x c.args.x.now in
    let room = c.args.room in
    let n = c.in-Some-pop.node in
    let ns = reverse c.pop.new.self.items in
    let v = c.in-Whole.value in
    let whole = popped g of x room c.nodes.around.items c.pop.new.self.items n v c.nodes.here c.nodes.invariant.reached c.in-Whole.is c.in-Some-pop.ensures.items in
    record {
      built = c.nodes.invariant.built;
      grown = c.nodes.invariant.grown;
      reached = reached_joined g of x room ns n v whole c.in_ok-grown-in-Whole.field-0 c.in_ok-grown-in-Whole.ensures;
    }

-- ---- a transformation that is applied

pub apply-evaluate-requires : goal.apply-evaluate-requires
apply-evaluate-requires t c =
    let items = items_in c.args.given.now in
    let made = c.requires.made in
    let ends = c.ends_of-ends.ensures made.0 made.1 made.2 in
    (omega (arith, c.decreases), (c.requires.given, (c.requires.built, (subst (λ n. IsTreeOn items n (plain_x c.args.x.now)) (sym ends.input) made.3, (c.requires.also_known, omega arith)))))

pub apply-returns-in_err-value-clause-stop : goal.apply-returns-in_err-value-clause-stop
apply-returns-in_err-value-clause-stop t c =
    let g = c.args.given.now in
    let items = items_in g in
    let f = plain_x c.args.f.now in
    let x = plain_x c.args.x.now in
    let made = c.requires.made in
    let ends = c.ends_of-ends.ensures made.0 made.1 made.2 in
    let from = c.ends_of-ends.result.from.now in
    let own = type_in g from in
    let type_is = input_is items f made.0 made.1 made.2 from ends.input in
    let s = c.in_err-value.field-0.0 in
    on_err (λ e. (place : Pos) (signature : PlainSignature) (printed : List Printed) → Tells g.trees.now printed → IsValueStop items printed g.limit signature (two Apply place f x) e) c.from_residual.result s c.from_residual.ensures.1
    (λ place signature printed told. stop_inside items printed g.limit signature place f x s (subst (λ k. IsValueStop items printed g.limit k x s) type_is (c.in_err-value.ensures.stop printed told)))

pub apply-returns-in_default-clause-stop : goal.apply-returns-in_default-clause-stop
apply-returns-in_default-clause-stop t c place signature printed told =
    let g = c.args.given.now in
    let items = items_in g in
    let f = plain_x c.args.f.now in
    let x = plain_x c.args.x.now in
    let made = c.requires.made in
    let ends = c.ends_of-ends.ensures made.0 made.1 made.2 in
    let from = c.ends_of-ends.result.from.now in
    let own = type_in g from in
    let type_is = input_is items f made.0 made.1 made.2 from ends.input in
    let has = subst (λ k. HasValue items printed k x most_nodes None) type_is (subst (HasValue items printed own x most_nodes) c.in_default.is (c.in_ok-value.ensures.value printed told)) in
    stop_inside items printed g.limit signature place f x TooLarge (stop_large items printed g.limit (input_type items f) x has.tree has.is has.held)

pub apply-only_output-requires-clause-known : goal.apply-only_output-requires-clause-known
apply-only_output-requires-clause-known t c = trans_known_grown (items_in c.args.given.now) c.args.built.now c.evaluate.new.built c.evaluate.ensures.grown (plain_x c.args.f.now) c.requires.known

pub apply-only_output-requires-clause-typed : goal.apply-only_output-requires-clause-typed
apply-only_output-requires-clause-typed t c =
    let g = c.args.given.now in
    let items = items_in g in
    let f = plain_x c.args.f.now in
    let x = plain_x c.args.x.now in
    let made = c.requires.made in
    let ends = c.ends_of-ends.ensures made.0 made.1 made.2 in
    let from = c.ends_of-ends.result.from.now in
    let own = type_in g from in
    let type_is = input_is items f made.0 made.1 made.2 from ends.input in
    let given = c.requires.given in
    let has = subst (HasValue items given.printed own x most_nodes) c.in-Some.is (c.in_ok-value.ensures.value given.printed given.told) in
    subst (λ k. HasType k (meant c.in-Some.value.tree)) type_is (value_typed items given.printed own x c.in-Some.value has)

pub apply-only_output-requires-clause-limits : goal.apply-only_output-requires-clause-limits
apply-only_output-requires-clause-limits t c =
    let g = c.args.given.now in
    let items = items_in g in
    let x = plain_x c.args.x.now in
    let own = type_in g c.ends_of-ends.result.from.now in
    let given = c.requires.given in
    value_in_limits items given.printed own x c.in-Some.value (subst (HasValue items given.printed own x most_nodes) c.in-Some.is (c.in_ok-value.ensures.value given.printed given.told))

pub apply-returns-clause-value : goal.apply-returns-clause-value
apply-returns-clause-value t c =
    let g = c.args.given.now in
    let items = items_in g in
    let f = plain_x c.args.f.now in
    let x = plain_x c.args.x.now in
    let made = c.requires.made in
    let ends = c.ends_of-ends.ensures made.0 made.1 made.2 in
    let from = c.ends_of-ends.result.from.now in
    let own = type_in g from in
    let type_is = input_is items f made.0 made.1 made.2 from ends.input in
    let tree = meant c.in-Some.value.tree in
    IfOk-weaker c.only_output.result (HasOutput items f tree c.args.room)
    (λ v. (place : Pos) (signature : PlainSignature) (printed : List Printed) → Tells g.trees.now printed → signature ≡ output_type items f → HasValue items printed signature (two Apply place f x) c.args.room v)
    (λ v has place signature printed told of.
    (let inner = subst (HasValue items printed own x most_nodes) c.in-Some.is (c.in_ok-value.ensures.value printed told) in
    applied_value items printed signature place f x tree c.args.room v (subst (λ k. IsValue items printed k x tree) type_is (value_is items printed own x c.in-Some.value inner)) (subst (λ k. OwesNothing items printed k x) type_is inner.unowed) has of))
    c.only_output.ensures.output

pub apply-returns-clause-stop : goal.apply-returns-clause-stop
apply-returns-clause-stop t c =
    let g = c.args.given.now in
    let items = items_in g in
    let f = plain_x c.args.f.now in
    let x = plain_x c.args.x.now in
    let made = c.requires.made in
    let ends = c.ends_of-ends.ensures made.0 made.1 made.2 in
    let from = c.ends_of-ends.result.from.now in
    let own = type_in g from in
    let type_is = input_is items f made.0 made.1 made.2 from ends.input in
    let tree = meant c.in-Some.value.tree in
    IfErr-weaker c.only_output.result (IsOutputStop items g.limit f tree)
    (λ s. (place : Pos) (signature : PlainSignature) (printed : List Printed) → Tells g.trees.now printed → IsValueStop items printed g.limit signature (two Apply place f x) s)
    (λ s stop place signature printed told.
    (let has = subst (HasValue items printed own x most_nodes) c.in-Some.is (c.in_ok-value.ensures.value printed told) in
    stop_output items printed g.limit signature place f x tree (subst (λ k. IsValue items printed k x tree) type_is (value_is items printed own x c.in-Some.value has)) (value_in_limits items printed own x c.in-Some.value has) s stop))
    c.only_output.ensures.stop

pub apply-returns-clause-shown : goal.apply-returns-clause-shown
apply-returns-clause-shown t c =
    let g = c.args.given.now in
    let items = items_in g in
    let f = plain_x c.args.f.now in
    let x = plain_x c.args.x.now in
    let made = c.requires.made in
    let ends = c.ends_of-ends.ensures made.0 made.1 made.2 in
    let from = c.ends_of-ends.result.from.now in
    let own = type_in g from in
    let type_is = input_is items f made.0 made.1 made.2 from ends.input in
    let given = c.requires.given in
    let tree = meant c.in-Some.value.tree in
    let has = subst (HasValue items given.printed own x most_nodes) c.in-Some.is (c.in_ok-value.ensures.value given.printed given.told) in
    IfErr-weaker c.only_output.result (IsOutputStop items g.limit f tree) (IsStopTyped items) (λ s stop. output_typed items g.limit f tree (subst (λ k. HasType k tree) type_is (value_typed items given.printed own x c.in-Some.value has)) s stop) c.only_output.ensures.stop
