use Rattle.std.specs.Prelude.{ℕ, List}
use Rattle.fast_fault.specs.declared.place.Pos.{Pos}
use Rattle.model_grammar.specs.Syntax.{X, two}
use Rattle.model_grammar.specs.declared.Op2.TheVariants.{PreImage}
use Rattle.fast_eval.specs.Scopes.{items_in, type_in, LooksAt}
use Rattle.fast_eval.specs.Stops.{StopsExpression, by_run}
use Rattle.fast_eval.proofs.Imaged.{trans_low, trans_labels, makes_asked, stands_unchanged, pre_image_built, pre_image_stops}
use Rattle.fast_eval.proofs.Keeping.{on_err}
use Rattle.fast_eval.proofs.Ready.{start_low}
use Rattle.fast_eval.proofs.images.sources.Goals as goal

pub preimage-requires : goal.preimage-requires
preimage-requires c =
    let s = c.args.scope.now in
    let a = c.args.a.now in
    let b = c.args.b.now in
    let (f, y, into, looks) = c.requires.operands in
    record {
      stands = looks.first.stands;
      start = trans_low (items_in s) f (type_in s) into a looks.first;
      state = start_low (items_in s) into y b looks.second;
      labels = trans_labels (items_in s) (type_in s) s.theory.now c.requires.scope.labels f into a looks.first;
      makes = makes_asked (items_in s) (type_in s) s.theory.now c.requires.scope.labels f into a looks.first y b looks.second;
      unchanged = stands_unchanged (items_in s) (type_in s) s.theory.now c.requires.scope.labels f into a looks.first y b looks.second;
    }

pub returns-clause-built : goal.returns-clause-built
returns-clause-built c = λ place f y into looks.
    (let s = c.args.scope.now in
    pre_image_built (items_in s) (type_in s) s.theory.now c.requires.scope.labels place f y into c.args.a.now c.args.b.now looks c.in_ok-preimage.field-0 c.in_ok-preimage.ensures.language c.in_ok-preimage.ensures.made)

pub returns-in_err-preimage-clause-stop : goal.returns-in_err-preimage-clause-stop
returns-in_err-preimage-clause-stop c =
    let s = c.args.scope.now in
    let a = c.args.a.now in
    let b = c.args.b.now in
    let e = c.in_err-preimage.field-0.0 in
    on_err (λ st. (place : Pos) (f y : X) (into : List ℕ) → LooksAt (items_in s) f y (type_in s) into a b → StopsExpression (items_in s) (two PreImage place f y) s.limit st) c.from_residual.result (by_run e) c.from_residual.ensures.1
    (λ place f y into looks. pre_image_stops (items_in s) (type_in s) s.theory.now c.requires.scope.labels place f y into a b looks s.limit e c.in_err-preimage.ensures.stop)
