use Rattle.std.proofs.lemmas.Result.{IfOk-weaker, IfErr-weaker}
use Rattle.fast_fault.specs.declared.place.Pos.{Pos}
use Rattle.model_grammar.specs.Syntax.{X, two}
use Rattle.model_grammar.specs.Places.{nowhere}
use Rattle.model_grammar.specs.declared.Op2.TheVariants.{Intersect}
use Rattle.fast_syntax.specs.Plain.{plain_x}
use Rattle.fast_eval.specs.Broken.{escaping_x, broken_x}
use Rattle.fast_eval.specs.Built.{IsBuiltOf}
use Rattle.fast_eval.specs.Scopes.{items_in, type_in, AreDecided}
use Rattle.fast_eval.specs.Stops.{StopsExpression}
use Rattle.fast_eval.proofs.Breaking.{language_stops, escaping_stops}
use Rattle.fast_eval.proofs.Keeping.{on_err}
use Rattle.fast_eval.proofs.Ready.{operand_built}
use Rattle.fast_eval.proofs.broken.broken.Goals as goal

pub returns-in_err-a-clause-stop : goal.returns-in_err-a-clause-stop
returns-in_err-a-clause-stop c =
    let s = c.args.scope.now in
    let x = plain_x c.args.x.now in
    let f = plain_x c.args.f.now in
    let y = plain_x c.args.y.now in
    let e = c.in_err-a.field-0.0 in
    on_err (StopsExpression (items_in s) (broken_x x f y) s.limit) c.from_residual.result e c.from_residual.ensures.1 (language_stops (items_in s) s.limit x f y e c.in_err-a.ensures.stop)

pub returns-in_err-b-clause-stop : goal.returns-in_err-b-clause-stop
returns-in_err-b-clause-stop c =
    let s = c.args.scope.now in
    let x = plain_x c.args.x.now in
    let f = plain_x c.args.f.now in
    let y = plain_x c.args.y.now in
    let e = c.in_err-b.field-0.0 in
    on_err (StopsExpression (items_in s) (broken_x x f y) s.limit) c.from_residual-in_err-b.result e c.from_residual-in_err-b.ensures.1 (escaping_stops (items_in s) s.limit x f y e c.in_err-b.ensures.stop)

pub returns-clause-built : goal.returns-clause-built
returns-clause-built c =
    let s = c.args.scope.now in
    let items = items_in s in
    let type = type_in s in
    let b = s.built.now in
    let x = plain_x c.args.x.now in
    let f = plain_x c.args.f.now in
    let y = plain_x c.args.y.now in
    let a = operand_built items x type b c.in_ok-a.a c.lang_of-a.result.now c.in_ok-a.ensures.built c.lang_of-a.ensures in
    IfOk-weaker c.join.result (λ l. (place : Pos) (w z : X) → IsBuiltOf items w type c.lang_of-a.result.now → IsBuiltOf items z type c.in_ok-b.b → IsBuiltOf items (two Intersect place w z) type l) (IsBuiltOf items (broken_x x f y) type)
    (λ l h. h nowhere x (escaping_x f y) a c.in_ok-b.ensures.built) c.join.ensures.built

pub returns-clause-decided : goal.returns-clause-decided
returns-clause-decided c =
    let s = c.args.scope.now in
    let items = items_in s in
    let type = type_in s in
    let f = plain_x c.args.f.now in
    let y = plain_x c.args.y.now in
    IfOk-weaker c.join.result (λ l. (place : Pos) (w z : X) → IsBuiltOf items w type c.lang_of-a.result.now → IsBuiltOf items z type c.in_ok-b.b → IsBuiltOf items (two Intersect place w z) type l) (λ _. AreDecided items type f y)
    (λ l h. c.in_ok-b.ensures.decided) c.join.ensures.built

pub returns-clause-stop : goal.returns-clause-stop
returns-clause-stop c =
    let s = c.args.scope.now in
    let items = items_in s in
    let type = type_in s in
    let b = s.built.now in
    let x = plain_x c.args.x.now in
    let f = plain_x c.args.f.now in
    let y = plain_x c.args.y.now in
    let a = operand_built items x type b c.in_ok-a.a c.lang_of-a.result.now c.in_ok-a.ensures.built c.lang_of-a.ensures in
    IfErr-weaker c.join.result (λ e. (place : Pos) (w z : X) → IsBuiltOf items w type c.lang_of-a.result.now → IsBuiltOf items z type c.in_ok-b.b → StopsExpression items (two Intersect place w z) s.limit e) (StopsExpression items (broken_x x f y) s.limit)
    (λ e h. h nowhere x (escaping_x f y) a c.in_ok-b.ensures.built) c.join.ensures.stop
