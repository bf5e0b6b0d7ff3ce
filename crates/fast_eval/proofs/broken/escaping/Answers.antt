use Rattle.std.proofs.Common.{inl}
use Rattle.std.proofs.lemmas.Result.{IfOk-weaker, IfErr-weaker}
use Rattle.std.specs.Prelude.{ℕ, List}
use Rattle.fast_fault.specs.declared.place.Pos.{Pos}
use Rattle.model_grammar.specs.Syntax.{X, two}
use Rattle.model_grammar.specs.Places.{nowhere}
use Rattle.model_grammar.specs.declared.Op2.TheVariants.{PreImage}
use Rattle.fast_syntax.specs.Plain.{plain_x}
use Rattle.fast_eval.specs.Broken.{outside_x, escaping_x}
use Rattle.fast_eval.specs.Built.{IsBuiltOf}
use Rattle.fast_eval.specs.Scopes.{items_in, type_in, AreDecided, LooksAt}
use Rattle.fast_eval.specs.Stops.{StopsExpression}
use Rattle.fast_eval.proofs.Breaking.{outputs_decided, outputs_stop, inside_stops}
use Rattle.fast_eval.proofs.Keeping.{on_err}
use Rattle.fast_eval.proofs.Ready.{operand_built, trans_operand_built}
use Rattle.fast_eval.proofs.Scoped.{decided_back, operand_there, stop_there}
use Rattle.fast_eval.proofs.broken.escaping.Goals as goal

pub returns-in_err-b-clause-stop : goal.returns-in_err-b-clause-stop
returns-in_err-b-clause-stop c =
    let s = c.args.scope.now in
    let f = plain_x c.args.f.now in
    let y = plain_x c.args.y.now in
    let e = c.in_err-b.field-0.0 in
    let own = stop_there s.checked.now s.built.now s.limit y c.scope_of-other.result c.scope_of-other.ensures.of (outside_x y) e c.in_err-b.ensures.stop in
    on_err (StopsExpression (items_in s) (escaping_x f y) s.limit) c.from_residual.result e c.from_residual.ensures.1 (outputs_stop (items_in s) s.limit y f y e own)

pub returns-in_err-a-clause-stop : goal.returns-in_err-a-clause-stop
returns-in_err-a-clause-stop c =
    let s = c.args.scope.now in
    let f = plain_x c.args.f.now in
    let y = plain_x c.args.y.now in
    let e = c.in_err-a.field-0.0 in
    on_err (StopsExpression (items_in s) (escaping_x f y) s.limit) c.from_residual-in_err-a.result e c.from_residual-in_err-a.ensures.1 (inside_stops (items_in s) s.limit y f y e c.in_err-a.ensures.stop)

pub returns-clause-built : goal.returns-clause-built
returns-clause-built c =
    let s = c.args.scope.now in
    let items = items_in s in
    let type = type_in s in
    let b = s.built.now in
    let f = plain_x c.args.f.now in
    let y = plain_x c.args.y.now in
    let (into, made, inside) = c.requires.made in
    let a = trans_operand_built items f type into b c.in_ok-a.a c.trans_of-a.result.now (c.in_ok-a.ensures.built into made) c.trans_of-a.ensures in
    let own = operand_there s.checked.now b s.limit y c.scope_of-other.result c.scope_of-other.ensures.of into (inl inside) (outside_x y) c.in_ok-b.b c.in_ok-b.ensures.built in
    let looks : LooksAt items f (outside_x y) type into c.trans_of-a.result.now c.lang_of-b.result.now = record { first = a; second = operand_built items (outside_x y) into b c.in_ok-b.b c.lang_of-b.result.now own c.lang_of-b.ensures } in
    IfOk-weaker c.sources.result (λ l. (place : Pos) (g z : X) (out : List ℕ) → LooksAt items g z type out c.trans_of-a.result.now c.lang_of-b.result.now → IsBuiltOf items (two PreImage place g z) type l) (IsBuiltOf items (escaping_x f y) type)
    (λ l h. h nowhere f (outside_x y) into looks) c.sources.ensures.built

pub returns-clause-decided : goal.returns-clause-decided
returns-clause-decided c =
    let s = c.args.scope.now in
    let items = items_in s in
    let type = type_in s in
    let b = s.built.now in
    let f = plain_x c.args.f.now in
    let y = plain_x c.args.y.now in
    let (into, made, inside) = c.requires.made in
    let a = trans_operand_built items f type into b c.in_ok-a.a c.trans_of-a.result.now (c.in_ok-a.ensures.built into made) c.trans_of-a.ensures in
    let decided = decided_back s.checked.now b s.limit y c.scope_of-other.result c.scope_of-other.ensures.of into (inl inside) y c.in_ok-b.ensures.decided in
    IfOk-weaker c.sources.result (λ l. (place : Pos) (g z : X) (out : List ℕ) → LooksAt items g z type out c.trans_of-a.result.now c.lang_of-b.result.now → IsBuiltOf items (two PreImage place g z) type l) (λ _. AreDecided items type f y)
    (λ l h. outputs_decided items type into f y c.trans_of-a.result.now a decided) c.sources.ensures.built

pub returns-clause-stop : goal.returns-clause-stop
returns-clause-stop c =
    let s = c.args.scope.now in
    let items = items_in s in
    let type = type_in s in
    let b = s.built.now in
    let f = plain_x c.args.f.now in
    let y = plain_x c.args.y.now in
    let (into, made, inside) = c.requires.made in
    let a = trans_operand_built items f type into b c.in_ok-a.a c.trans_of-a.result.now (c.in_ok-a.ensures.built into made) c.trans_of-a.ensures in
    let own = operand_there s.checked.now b s.limit y c.scope_of-other.result c.scope_of-other.ensures.of into (inl inside) (outside_x y) c.in_ok-b.b c.in_ok-b.ensures.built in
    let looks : LooksAt items f (outside_x y) type into c.trans_of-a.result.now c.lang_of-b.result.now = record { first = a; second = operand_built items (outside_x y) into b c.in_ok-b.b c.lang_of-b.result.now own c.lang_of-b.ensures } in
    IfErr-weaker c.sources.result (λ e. (place : Pos) (g z : X) (out : List ℕ) → LooksAt items g z type out c.trans_of-a.result.now c.lang_of-b.result.now → StopsExpression items (two PreImage place g z) s.limit e) (StopsExpression items (escaping_x f y) s.limit)
    (λ e h. h nowhere f (outside_x y) into looks) c.sources.ensures.stop
