use Rattle.std.proofs.Common.{Some, sym, subst}
use Rattle.fast_fault.specs.declared.place.Pos.{Pos}
use Rattle.model_grammar.specs.Syntax.{X, one}
use Rattle.fast_eval.specs.Built.{IsBuiltOf}
use Rattle.fast_eval.specs.Counted.{IsCounted}
use Rattle.fast_eval.specs.Scopes.{items_in, type_in}
use Rattle.fast_eval.specs.Stops.{StopsExpression, by_classes}
use Rattle.fast_eval.proofs.Claims.{only_tells}
use Rattle.fast_eval.proofs.Keeping.{on_err}
use Rattle.fast_eval.proofs.Operations.{complement_built, minimal_built, minimal_counted}
use Rattle.fast_eval.proofs.Ready.{start_low, atoms_fit, made_operand, least_operand}
use Rattle.fast_eval.proofs.Stopped.{stops_one}
use Rattle.fast_eval.proofs.evaluation.changed.Goals as goal

pub complement-requires : goal.complement-requires
complement-requires c =
    let s = c.args.scope.now in
    record {
      state = start_low (items_in s) (type_in s) c.requires.operand.0 c.args.a.now c.requires.operand.1;
      fit = atoms_fit (items_in s) (type_in s) c.requires.operand.0 c.args.a.now c.requires.operand.1 s.theory.now c.requires.scope.labels;
    }

pub minimize-requires : goal.minimize-requires
minimize-requires c =
    let s = c.args.scope.now in
    record {
      state = start_low (items_in s) (type_in s) c.requires.operand.0 c.args.a.now c.requires.operand.1;
      fit = atoms_fit (items_in s) (type_in s) c.requires.operand.0 c.args.a.now c.requires.operand.1 s.theory.now c.requires.scope.labels;
    }

pub returns-in_err-complement-in-Complement-clause-stop : goal.returns-in_err-complement-in-Complement-clause-stop
returns-in_err-complement-in-Complement-clause-stop c =
    let s = c.args.scope.now in
    let a = c.args.a.now in
    let e = c.in_err-complement-in-Complement.field-0.0 in
    on_err (λ st. (place : Pos) (x : X) → IsBuiltOf (items_in s) x (type_in s) a → StopsExpression (items_in s) (one c.args.op place x) s.limit st) c.from_residual.result (by_classes e) c.from_residual.ensures.1
    (λ place x built. only_tells (items_in s) s.limit c.args.op place x c.requires.op (by_classes e) (stops_one (items_in s) (type_in s) s.theory.now c.requires.scope.labels x a built s.limit e c.in_err-complement-in-Complement.ensures.stop))

pub returns-in_err-minimize-in-Minimize-clause-stop : goal.returns-in_err-minimize-in-Minimize-clause-stop
returns-in_err-minimize-in-Minimize-clause-stop c =
    let s = c.args.scope.now in
    let a = c.args.a.now in
    let e = c.in_err-minimize-in-Minimize.field-0.0 in
    on_err (λ st. (place : Pos) (x : X) → IsBuiltOf (items_in s) x (type_in s) a → StopsExpression (items_in s) (one c.args.op place x) s.limit st) c.from_residual-in_err-minimize-in-Minimize.result (by_classes e) c.from_residual-in_err-minimize-in-Minimize.ensures.1
    (λ place x built. only_tells (items_in s) s.limit c.args.op place x c.requires.op (by_classes e) (stops_one (items_in s) (type_in s) s.theory.now c.requires.scope.labels x a built s.limit e c.in_err-minimize-in-Minimize.ensures.stop))

pub returns-in_ok-complement-in-Complement-clause-built : goal.returns-in_ok-complement-in-Complement-clause-built
returns-in_ok-complement-in-Complement-clause-built c = λ place x built.
    (let s = c.args.scope.now in
    let l = c.in_ok-complement-in-Complement.field-0 in
    let ensured = c.in_ok-complement-in-Complement.ensures in
    made_operand (items_in s) (one c.args.op place x) (type_in s) s.built.now l
    (subst (λ op. IsBuiltOf (items_in s) (one op place x) (type_in s) l) (sym c.in-Complement.is) (complement_built (items_in s) (type_in s) s.theory.now c.requires.scope.labels place x c.args.a.now built l ensured.language ensured.made)))

pub returns-in_ok-minimize-in-Minimize-clause-built : goal.returns-in_ok-minimize-in-Minimize-clause-built
returns-in_ok-minimize-in-Minimize-clause-built c = λ place x built.
    (let s = c.args.scope.now in
    let m = c.in_ok-minimize-in-Minimize.field-0 in
    least_operand (items_in s) (one c.args.op place x) (type_in s) s.built.now m
    (subst (λ op. IsBuiltOf (items_in s) (one op place x) (type_in s) m.lang) (sym c.in-Minimize.is) (minimal_built (items_in s) (type_in s) s.theory.now c.requires.scope.labels place x c.args.a.now built m c.in_ok-minimize-in-Minimize.ensures.least c.in_ok-minimize-in-Minimize.ensures.made)))

pub returns-in_ok-minimize-in-Minimize-clause-counted : goal.returns-in_ok-minimize-in-Minimize-clause-counted
returns-in_ok-minimize-in-Minimize-clause-counted c = λ place x built.
    (let s = c.args.scope.now in
    let m = c.in_ok-minimize-in-Minimize.field-0 in
    subst (λ op. IsCounted (items_in s) (one op place x) (Some m.count)) (sym c.in-Minimize.is) (minimal_counted (items_in s) (type_in s) s.theory.now c.requires.scope.labels place x c.args.a.now built m c.in_ok-minimize-in-Minimize.ensures.least))
