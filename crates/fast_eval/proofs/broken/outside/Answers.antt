use Rattle.std.proofs.lemmas.Result.{IfOk-weaker, IfErr-weaker}
use Rattle.fast_fault.specs.declared.place.Pos.{Pos}
use Rattle.model_grammar.specs.Syntax.{X, one}
use Rattle.model_grammar.specs.Places.{nowhere}
use Rattle.model_grammar.specs.declared.Op1.TheVariants.{Complement}
use Rattle.fast_syntax.specs.Plain.{plain_x}
use Rattle.fast_eval.specs.Broken.{outside_x}
use Rattle.fast_eval.specs.Built.{IsBuiltOf}
use Rattle.fast_eval.specs.Scopes.{items_in, type_in, IsOperandOf, IsDecided}
use Rattle.fast_eval.specs.Stops.{StopsExpression}
use Rattle.fast_eval.proofs.Breaking.{decided_by, outside_stops}
use Rattle.fast_eval.proofs.Keeping.{on_err}
use Rattle.fast_eval.proofs.Ready.{operand_built}
use Rattle.fast_eval.proofs.broken.outside.Goals as goal

pub returns-in_err-own-clause-stop : goal.returns-in_err-own-clause-stop
returns-in_err-own-clause-stop c =
    let s = c.args.scope.now in
    let y = plain_x c.args.y.now in
    let e = c.in_err-own.field-0.0 in
    on_err (StopsExpression (items_in s) (outside_x y) s.limit) c.from_residual.result e c.from_residual.ensures.1 (outside_stops (items_in s) s.limit y y y e c.in_err-own.ensures.stop)

pub returns-clause-built : goal.returns-clause-built
returns-clause-built c =
    let s = c.args.scope.now in
    let items = items_in s in
    let type = type_in s in
    let b = s.built.now in
    let y = plain_x c.args.y.now in
    let lang = operand_built items y type b c.in_ok-own.own c.lang_of-lang.result.now c.in_ok-own.ensures.built c.lang_of-lang.ensures in
    IfOk-weaker c.changed.result (λ o. (place : Pos) (x : X) → IsBuiltOf items x type c.lang_of-lang.result.now → IsOperandOf items (one Complement place x) type b o) (IsOperandOf items (outside_x y) type b)
    (λ o h. h nowhere y lang) c.changed.ensures.built

pub returns-clause-decided : goal.returns-clause-decided
returns-clause-decided c =
    let s = c.args.scope.now in
    let items = items_in s in
    let type = type_in s in
    let b = s.built.now in
    let y = plain_x c.args.y.now in
    let lang = operand_built items y type b c.in_ok-own.own c.lang_of-lang.result.now c.in_ok-own.ensures.built c.lang_of-lang.ensures in
    IfOk-weaker c.changed.result (λ o. (place : Pos) (x : X) → IsBuiltOf items x type c.lang_of-lang.result.now → IsOperandOf items (one Complement place x) type b o) (λ _. IsDecided items type y)
    (λ o h. decided_by items type y c.lang_of-lang.result.now lang) c.changed.ensures.built

pub returns-clause-stop : goal.returns-clause-stop
returns-clause-stop c =
    let s = c.args.scope.now in
    let items = items_in s in
    let type = type_in s in
    let b = s.built.now in
    let y = plain_x c.args.y.now in
    let lang = operand_built items y type b c.in_ok-own.own c.lang_of-lang.result.now c.in_ok-own.ensures.built c.lang_of-lang.ensures in
    IfErr-weaker c.changed.result (λ e. (place : Pos) (x : X) → IsBuiltOf items x type c.lang_of-lang.result.now → StopsExpression items (one Complement place x) s.limit e) (StopsExpression items (outside_x y) s.limit)
    (λ e h. h nowhere y lang) c.changed.ensures.stop
