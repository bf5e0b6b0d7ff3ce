use Rattle.fast_syntax.specs.Plain.{plain_x}
use Rattle.model_grammar.specs.Syntax as plain
use Rattle.model_run.specs.Items.{judged_claim}
use Rattle.fast_eval.specs.Scopes.{items_in, type_in}
use Rattle.fast_eval.specs.Stops.{IsStopOf, by_classes}
use Rattle.fast_eval.proofs.Claims.{made_on, empty_operand_stops}
use Rattle.fast_eval.proofs.Judged.{found_empty, stopped_empty}
use Rattle.fast_eval.proofs.Keeping.{on_err}
use Rattle.fast_eval.proofs.Ready.{operand_built, atoms_fit}
use Rattle.fast_eval.proofs.statements.judge_empty.Goals as goal

pub empty-requires : goal.empty-requires
empty-requires c =
    let s = c.args.scope.now in
    let x = plain_x c.args.x.now in
    let l = c.lang_of.result.now in
    let built = operand_built (items_in s) x (type_in s) s.built.now c.in_ok-a.a l c.in_ok-a.ensures.built c.lang_of.ensures in
    record { fit = atoms_fit (items_in s) (type_in s) x l built s.theory.now c.requires.scope.labels }

pub returns-in_err-a-clause-stop : goal.returns-in_err-a-clause-stop
returns-in_err-a-clause-stop c =
    let s = c.args.scope.now in
    let x = plain_x c.args.x.now in
    on_err (IsStopOf (items_in s) (judged_claim (items_in s) (plain.empty x)) s.limit) c.from_residual.result c.in_err-a.field-0.0 c.from_residual.ensures.1
    (empty_operand_stops (items_in s) s.limit x (made_on (items_in s) (type_in s) x c.requires.made).0 c.in_err-a.field-0.0 c.in_err-a.ensures.stop)

pub returns-clause-found : goal.returns-clause-found
returns-clause-found c =
    let s = c.args.scope.now in
    let x = plain_x c.args.x.now in
    let l = c.lang_of.result.now in
    let built = operand_built (items_in s) x (type_in s) s.built.now c.in_ok-a.a l c.in_ok-a.ensures.built c.lang_of.ensures in
    found_empty (items_in s) (type_in s) s.theory.now c.requires.scope.labels s.limit x l built c.requires.scope.shallow c.in_ok-empty.field-0 c.in_ok-empty.ensures.found

pub returns-in_err-empty-clause-stop : goal.returns-in_err-empty-clause-stop
returns-in_err-empty-clause-stop c =
    let s = c.args.scope.now in
    let x = plain_x c.args.x.now in
    let l = c.lang_of.result.now in
    let built = operand_built (items_in s) x (type_in s) s.built.now c.in_ok-a.a l c.in_ok-a.ensures.built c.lang_of.ensures in
    let e = c.in_err-empty.field-0.0 in
    on_err (IsStopOf (items_in s) (judged_claim (items_in s) (plain.empty x)) s.limit) c.from_residual-in_err-empty.result (by_classes e) c.from_residual-in_err-empty.ensures.1
    (stopped_empty (items_in s) (type_in s) s.theory.now c.requires.scope.labels s.limit x l built e c.in_err-empty.ensures.stop)
