use Rattle.std.proofs.Common.{◌≡◌, ap, subst, ◌∙◌, take, map, to_z, of_z, arith}
use Rattle.std.specs.Prelude.{unsigned_abs}
use Rattle.std.specs.Int.{w128}
use Rattle.std.proofs.lemmas.Int.{to_z-of_z}
use Rattle.std.proofs.lemmas.Result.{err_from_is_err_and}
use Rattle.math_cooper.specs.System.{unit, unit_all, divides_condition}
use Rattle.cooper_solve.specs.Views.{WideIn, WideInSystem}
use Rattle.cooper_solve.proofs.Scaled.{wide_exit, wide_unit, unit_end}
use Rattle.cooper_solve.proofs.scale.unit_each.Goals as goal

pub returns-in_err-unit_one : goal.returns-in_err-unit_one
returns-in_err-unit_one c =
    let p = err_from_is_err_and c.from_residual.result c.from_residual.ensures.1 in
    let i = c.args.last in
    let C = unsigned_abs c.args.c in
    let S = c.args.system.now in
    let back = to_z-of_z w128 c.args.c c.ranges.c in
    let item = c.constraint-item.result in
    wide_exit c.from_residual.result (λ r. r.items ≡ unit_all i C S) (WideIn (unit i (unsigned_abs (to_z w128 (of_z w128 c.args.c))) item)) (WideInSystem (unit_all i C S)) p.0 c.in_err-unit_one.field-0.0 p.1 p.2
    (λ w. wide_unit i C S c.loop-constraint.constraint-index item (omega arith) c.constraint-item.is (subst (λ z. WideIn (unit i (unsigned_abs z) item)) back w))
    (c.in_err-unit_one.ensures {u = tt})

pub returns : goal.returns
returns c =
    let i = c.args.last in
    let back = to_z-of_z w128 c.args.c c.ranges.c in
    unit_end i (unsigned_abs c.args.c) c.args.system.now c.loop-constraint.out.items c.push-2.new.self.items c.loop-constraint.constraint-index c.in_ok-divides_one.field-0 (omega arith)
    (c.loop-constraint.invariant ∙ ap (λ z. map (unit i (unsigned_abs z)) (take c.loop-constraint.constraint-index c.args.system.now)) back)
    (c.in_ok-divides_one.ensures {u = tt} ∙ ap (λ z. divides_condition i (unsigned_abs z)) back) (c.in_ok-push-2.ensures {u = tt}).items
