use Rattle.std.proofs.Common.{[], ◌∷◌}
use Rattle.model_grammar.specs.Places.{nowhere}
use Rattle.fast_syntax.specs.Plain.{plain_x}
use Rattle.sta_ops.specs.declared.emptiness.Wanted.TheVariants.{One}
use Rattle.fast_eval.specs.Scopes.{items_in, type_in}
use Rattle.fast_eval.specs.Stops.{IsStopOf, by_classes}
use Rattle.fast_eval.proofs.Claims.{first_side_stops, second_side_stops}
use Rattle.fast_eval.proofs.Judged.{found_wanted, stopped_equal}
use Rattle.fast_eval.proofs.Keeping.{on_err}
use Rattle.fast_eval.proofs.Ready.{operand_built, atoms_fit, same_ranks, start_low}
use Rattle.fast_eval.proofs.statements.judge_equal.Goals as goal

pub compare-requires : goal.compare-requires
compare-requires c =
    let s = c.args.scope.now in
    let x = plain_x c.args.x.now in
    let y = plain_x c.args.y.now in
    let l = c.lang_of-a.result.now in
    let m = c.lang_of-b.result.now in
    let first = operand_built (items_in s) x (type_in s) s.built.now c.in_ok-a.a l c.in_ok-a.ensures.built c.lang_of-a.ensures in
    let second = operand_built (items_in s) y (type_in s) s.built.now c.in_ok-b.b m c.in_ok-b.ensures.built c.lang_of-b.ensures in
    record {
      ranks = same_ranks (items_in s) (type_in s) x l first y m second;
      first = start_low (items_in s) (type_in s) x l first;
      second = start_low (items_in s) (type_in s) y m second;
      first_fit = atoms_fit (items_in s) (type_in s) x l first s.theory.now c.requires.scope.labels;
      second_fit = atoms_fit (items_in s) (type_in s) y m second s.theory.now c.requires.scope.labels;
    }

pub returns-in_err-a-clause-stop : goal.returns-in_err-a-clause-stop
returns-in_err-a-clause-stop c =
    let s = c.args.scope.now in
    let x = plain_x c.args.x.now in
    let y = plain_x c.args.y.now in
    on_err (IsStopOf (items_in s) (x ∷ y ∷ []) s.limit) c.from_residual.result c.in_err-a.field-0.0 c.from_residual.ensures.1
    (first_side_stops (items_in s) s.limit x y c.in_err-a.field-0.0 c.in_err-a.ensures.stop)

pub returns-in_err-b-clause-stop : goal.returns-in_err-b-clause-stop
returns-in_err-b-clause-stop c =
    let s = c.args.scope.now in
    let x = plain_x c.args.x.now in
    let y = plain_x c.args.y.now in
    on_err (IsStopOf (items_in s) (x ∷ y ∷ []) s.limit) c.from_residual-in_err-b.result c.in_err-b.field-0.0 c.from_residual-in_err-b.ensures.1
    (second_side_stops (items_in s) s.limit x y c.in_err-b.field-0.0 c.in_err-b.ensures.stop)

pub returns-clause-found : goal.returns-clause-found
returns-clause-found c =
    let s = c.args.scope.now in
    let x = plain_x c.args.x.now in
    let y = plain_x c.args.y.now in
    let l = c.lang_of-a.result.now in
    let m = c.lang_of-b.result.now in
    let first = operand_built (items_in s) x (type_in s) s.built.now c.in_ok-a.a l c.in_ok-a.ensures.built c.lang_of-a.ensures in
    let second = operand_built (items_in s) y (type_in s) s.built.now c.in_ok-b.b m c.in_ok-b.ensures.built c.lang_of-b.ensures in
    found_wanted (items_in s) (type_in s) s.theory.now c.requires.scope.labels s.limit x l first y m second One nowhere c.requires.scope.shallow c.in_ok-compare.field-0 c.in_ok-compare.ensures.found

pub returns-in_err-compare-clause-stop : goal.returns-in_err-compare-clause-stop
returns-in_err-compare-clause-stop c =
    let s = c.args.scope.now in
    let x = plain_x c.args.x.now in
    let y = plain_x c.args.y.now in
    let l = c.lang_of-a.result.now in
    let m = c.lang_of-b.result.now in
    let first = operand_built (items_in s) x (type_in s) s.built.now c.in_ok-a.a l c.in_ok-a.ensures.built c.lang_of-a.ensures in
    let second = operand_built (items_in s) y (type_in s) s.built.now c.in_ok-b.b m c.in_ok-b.ensures.built c.lang_of-b.ensures in
    let e = c.in_err-compare.field-0.0 in
    on_err (IsStopOf (items_in s) (x ∷ y ∷ []) s.limit) c.from_residual-in_err-compare.result (by_classes e) c.from_residual-in_err-compare.ensures.1
    (stopped_equal (items_in s) (type_in s) s.theory.now c.requires.scope.labels s.limit x l first y m second e c.in_err-compare.ensures.stop)
