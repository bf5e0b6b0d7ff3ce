use Rattle.std.proofs.Common.{[], ◌∷◌}
use Rattle.fast_syntax.specs.Plain.{plain_x}
use Rattle.fast_eval.specs.Broken.{broken_x}
use Rattle.fast_eval.specs.Scopes.{items_in, type_in}
use Rattle.fast_eval.specs.Stops.{IsStopOf, by_classes}
use Rattle.fast_eval.proofs.Claims.{made_on, of_expression}
use Rattle.fast_eval.proofs.Judged.{found_empty, found_broken}
use Rattle.fast_eval.proofs.Keeping.{on_err}
use Rattle.fast_eval.proofs.Ready.{atoms_fit}
use Rattle.fast_eval.proofs.Stopped.{stops_one}
use Rattle.fast_eval.proofs.statements.judge_types.Goals as goal

pub empty-requires : goal.empty-requires
empty-requires c =
    let s = c.args.scope.now in
    let e = broken_x (plain_x c.args.x.now) (plain_x c.args.f.now) (plain_x c.args.y.now) in
    record { fit = atoms_fit (items_in s) (type_in s) e c.in_ok-own.own c.in_ok-own.ensures.built s.theory.now c.requires.scope.labels }

pub returns-in_err-own-clause-stop : goal.returns-in_err-own-clause-stop
returns-in_err-own-clause-stop c =
    let s = c.args.scope.now in
    let e = broken_x (plain_x c.args.x.now) (plain_x c.args.f.now) (plain_x c.args.y.now) in
    on_err (IsStopOf (items_in s) (e ∷ []) s.limit) c.from_residual.result c.in_err-own.field-0.0 c.from_residual.ensures.1 (of_expression (items_in s) s.limit e c.in_err-own.field-0.0 c.in_err-own.ensures.stop)

pub returns-clause-found : goal.returns-clause-found
returns-clause-found c =
    let s = c.args.scope.now in
    let x = plain_x c.args.x.now in
    let f = plain_x c.args.f.now in
    let y = plain_x c.args.y.now in
    found_broken (items_in s) (type_in s) x f y (made_on (items_in s) (type_in s) x c.requires.made.1) c.in_ok-own.ensures.decided c.in_ok-empty.field-0
    (found_empty (items_in s) (type_in s) s.theory.now c.requires.scope.labels s.limit (broken_x x f y) c.in_ok-own.own c.in_ok-own.ensures.built c.requires.scope.shallow c.in_ok-empty.field-0 c.in_ok-empty.ensures.found)

pub returns-in_err-empty-clause-stop : goal.returns-in_err-empty-clause-stop
returns-in_err-empty-clause-stop c =
    let s = c.args.scope.now in
    let x = broken_x (plain_x c.args.x.now) (plain_x c.args.f.now) (plain_x c.args.y.now) in
    let e = c.in_err-empty.field-0.0 in
    on_err (IsStopOf (items_in s) (x ∷ []) s.limit) c.from_residual-in_err-empty.result (by_classes e) c.from_residual-in_err-empty.ensures.1
    (stops_one (items_in s) (type_in s) s.theory.now c.requires.scope.labels x c.in_ok-own.own c.in_ok-own.ensures.built s.limit e c.in_err-empty.ensures.stop)
