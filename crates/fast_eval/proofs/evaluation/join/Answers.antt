use Rattle.std.proofs.Common.{sym, subst}
use Rattle.fast_fault.specs.declared.place.Pos.{Pos}
use Rattle.model_grammar.specs.Syntax.{X, two}
use Rattle.fast_eval.specs.Built.{IsBuiltOf}
use Rattle.fast_eval.specs.Scopes.{items_in, type_in}
use Rattle.fast_eval.specs.Stops.{StopsExpression, by_classes}
use Rattle.fast_eval.proofs.Claims.{second_tells}
use Rattle.fast_eval.proofs.Keeping.{on_err}
use Rattle.fast_eval.proofs.Operations.{union_built, intersection_built, difference_built}
use Rattle.fast_eval.proofs.Ready.{start_low, atoms_fit, same_ranks}
use Rattle.fast_eval.proofs.Stopped.{stops_one}
use Rattle.fast_eval.proofs.evaluation.join.Goals as goal

pub union-requires-clause-first_fit : goal.union-requires-clause-first_fit
union-requires-clause-first_fit c =
    let s = c.args.scope.now in
    atoms_fit (items_in s) (type_in s) c.requires.first.0 c.args.a.now c.requires.first.1 s.theory.now c.requires.scope.labels

pub union-requires-clause-second_fit : goal.union-requires-clause-second_fit
union-requires-clause-second_fit c =
    let s = c.args.scope.now in
    atoms_fit (items_in s) (type_in s) c.requires.second.0 c.args.b.now c.requires.second.1 s.theory.now c.requires.scope.labels

pub intersect-requires-clause-first_fit : goal.intersect-requires-clause-first_fit
intersect-requires-clause-first_fit c =
    let s = c.args.scope.now in
    atoms_fit (items_in s) (type_in s) c.requires.first.0 c.args.a.now c.requires.first.1 s.theory.now c.requires.scope.labels

pub intersect-requires-clause-second_fit : goal.intersect-requires-clause-second_fit
intersect-requires-clause-second_fit c =
    let s = c.args.scope.now in
    atoms_fit (items_in s) (type_in s) c.requires.second.0 c.args.b.now c.requires.second.1 s.theory.now c.requires.scope.labels

pub returns-in_ok-union-in-Union-clause-built : goal.returns-in_ok-union-in-Union-clause-built
returns-in_ok-union-in-Union-clause-built c = λ place x y first second.
    (let s = c.args.scope.now in
    subst (λ op. IsBuiltOf (items_in s) (two op place x y) (type_in s) c.in_ok-union-in-Union.field-0) (sym c.in-Union.is)
    (union_built (items_in s) (type_in s) s.theory.now c.requires.scope.labels place x y c.args.a.now c.args.b.now first second c.in_ok-union-in-Union.field-0 c.in_ok-union-in-Union.ensures.language c.in_ok-union-in-Union.ensures.made))

pub returns-in_ok-intersect-in-Intersect-clause-built : goal.returns-in_ok-intersect-in-Intersect-clause-built
returns-in_ok-intersect-in-Intersect-clause-built c = λ place x y first second.
    (let s = c.args.scope.now in
    subst (λ op. IsBuiltOf (items_in s) (two op place x y) (type_in s) c.in_ok-intersect-in-Intersect.field-0) (sym c.in-Intersect.is)
    (intersection_built (items_in s) (type_in s) s.theory.now c.requires.scope.labels place x y c.args.a.now c.args.b.now first second c.in_ok-intersect-in-Intersect.field-0 c.in_ok-intersect-in-Intersect.ensures.language c.in_ok-intersect-in-Intersect.ensures.made))

pub difference-requires : goal.difference-requires
difference-requires c =
    let s = c.args.scope.now in
    let a = c.args.a.now in
    let b = c.args.b.now in
    record {
      ranks = same_ranks (items_in s) (type_in s) c.requires.first.0 a c.requires.first.1 c.requires.second.0 b c.requires.second.1;
      first = start_low (items_in s) (type_in s) c.requires.first.0 a c.requires.first.1;
      second = start_low (items_in s) (type_in s) c.requires.second.0 b c.requires.second.1;
      first_fit = atoms_fit (items_in s) (type_in s) c.requires.first.0 a c.requires.first.1 s.theory.now c.requires.scope.labels;
      second_fit = atoms_fit (items_in s) (type_in s) c.requires.second.0 b c.requires.second.1 s.theory.now c.requires.scope.labels;
    }

pub returns-in_ok-difference-in-Difference-clause-built : goal.returns-in_ok-difference-in-Difference-clause-built
returns-in_ok-difference-in-Difference-clause-built c = λ place x y first second.
    (let s = c.args.scope.now in
    subst (λ op. IsBuiltOf (items_in s) (two op place x y) (type_in s) c.in_ok-difference-in-Difference.field-0) (sym c.in-Difference.is)
    (difference_built (items_in s) (type_in s) s.theory.now c.requires.scope.labels place x y c.args.a.now c.args.b.now first second c.in_ok-difference-in-Difference.field-0 c.in_ok-difference-in-Difference.ensures.language c.in_ok-difference-in-Difference.ensures.made))

pub returns-in_err-difference-in-Difference-clause-stop : goal.returns-in_err-difference-in-Difference-clause-stop
returns-in_err-difference-in-Difference-clause-stop c =
    let s = c.args.scope.now in
    let a = c.args.a.now in
    let b = c.args.b.now in
    let e = c.in_err-difference-in-Difference.field-0.0 in
    on_err (λ st. (place : Pos) (x y : X) → IsBuiltOf (items_in s) x (type_in s) a → IsBuiltOf (items_in s) y (type_in s) b → StopsExpression (items_in s) (two c.args.op place x y) s.limit st) c.from_residual-in_err-difference-in-Difference.result (by_classes e) c.from_residual-in_err-difference-in-Difference.ensures.1
    (λ place x y first second. subst (λ op. StopsExpression (items_in s) (two op place x y) s.limit (by_classes e)) (sym c.in-Difference.is)
    (second_tells (items_in s) s.limit place x y (by_classes e) (stops_one (items_in s) (type_in s) s.theory.now c.requires.scope.labels y b second s.limit e c.in_err-difference-in-Difference.ensures.stop)))
