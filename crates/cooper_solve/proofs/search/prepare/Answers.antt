use Rattle.std.proofs.Common.{◌^◌, ◌≤◌, ℕ, ap, sym, subst, ◌∙◌, rules, to_z, of_z}
use Rattle.std.specs.Prelude.{unsigned_abs, FitsSigned}
use Rattle.std.specs.Int.{w128}
use Rattle.std.proofs.lemmas.Int.{to_z-of_z}
use Rattle.std.proofs.lemmas.Result.{err_from_is_err_and}
use Rattle.math_cooper.specs.System.{unit_all}
use Rattle.math_cooper.specs.Puts.{IsScale, IsPeriod}
use Rattle.cooper_solve.specs.declared.search.Step.{Step}
use Rattle.cooper_solve.specs.Views.{WideInSystem, AreBases}
use Rattle.cooper_solve.specs.Told.{WideBefore, IsStepOf}
use Rattle.cooper_solve.proofs.Scaled.{wide_exit}
use Rattle.cooper_solve.proofs.Stepping.{step_of, system_of, wide_scale, wide_scaled, wide_period}
use Rattle.cooper_solve.proofs.search.prepare.Goals as goal

pub returns-in_err-scale : goal.returns-in_err-scale
returns-in_err-scale c =
    let p = err_from_is_err_and c.from_residual.result c.from_residual.ensures.1 in
    let i = c.args.last in
    let S = c.args.system.now in
    wide_exit c.from_residual.result (λ (s : Step). IsStepOf i S s.scale s.period s.scaled.items s.direction s.bounds.items) ((n : ℕ) → IsScale i S n → 2 ^ 127 ≤ n) (WideBefore i S) p.0 c.in_err-scale.field-0.0 p.1 p.2
    (wide_scale i S) (c.in_err-scale.ensures {u = tt})

pub returns-in_err-scaled : goal.returns-in_err-scaled
returns-in_err-scaled c =
    let p = err_from_is_err_and c.from_residual-in_err-scaled.result c.from_residual-in_err-scaled.ensures.1 in
    let i = c.args.last in
    let S = c.args.system.now in
    let k = c.in_ok-scale.scale in
    let fk : FitsSigned w128 k = search rules in
    let back = to_z-of_z w128 k fk in
    let scale = c.in_ok-scale.ensures {u = tt} in
    wide_exit c.from_residual-in_err-scaled.result (λ (s : Step). IsStepOf i S s.scale s.period s.scaled.items s.direction s.bounds.items) (WideInSystem (unit_all i (unsigned_abs (to_z w128 (of_z w128 k))) S)) (WideBefore i S) p.0 c.in_err-scaled.field-0.0 p.1 p.2
    (λ w. wide_scaled i S (unsigned_abs k) scale.1 (subst (λ z. WideInSystem (unit_all i (unsigned_abs z) S)) back w)) (c.in_err-scaled.ensures {u = tt})

pub period-requires : goal.period-requires
period-requires c =
    let i = c.args.last in
    let S = c.args.system.now in
    let k = c.in_ok-scale.scale in
    let fk : FitsSigned w128 k = search rules in
    let back = to_z-of_z w128 k fk in
    let scale = c.in_ok-scale.ensures {u = tt} in
    system_of i S c.deref.result.now k c.requires scale.0 scale.1 (c.deref.ensures.value ∙ c.in_ok-scaled.ensures {u = tt} ∙ ap (λ z. unit_all i (unsigned_abs z) S) back)

pub returns-in_err-period : goal.returns-in_err-period
returns-in_err-period c =
    let p = err_from_is_err_and c.from_residual-in_err-period.result c.from_residual-in_err-period.ensures.1 in
    let i = c.args.last in
    let S = c.args.system.now in
    let k = c.in_ok-scale.scale in
    let fk : FitsSigned w128 k = search rules in
    let back = to_z-of_z w128 k fk in
    let scale = c.in_ok-scale.ensures {u = tt} in
    let R = c.deref.result.now in
    wide_exit c.from_residual-in_err-period.result (λ (s : Step). IsStepOf i S s.scale s.period s.scaled.items s.direction s.bounds.items) ((n : ℕ) → IsPeriod i R n → 2 ^ 127 ≤ n) (WideBefore i S) p.0 c.in_err-period.field-0.0 p.1 p.2
    (wide_period i S R (unsigned_abs k) c.requires scale.1 (c.deref.ensures.value ∙ c.in_ok-scaled.ensures {u = tt} ∙ ap (λ z. unit_all i (unsigned_abs z) S) back)) (c.in_err-period.ensures {u = tt})

pub find_bases-requires : goal.find_bases-requires
find_bases-requires c =
    let i = c.args.last in
    let S = c.args.system.now in
    let k = c.in_ok-scale.scale in
    let fk : FitsSigned w128 k = search rules in
    let back = to_z-of_z w128 k fk in
    let scale = c.in_ok-scale.ensures {u = tt} in
    (system_of i S c.deref-2.result.now k c.requires scale.0 scale.1 (c.deref-2.ensures.value ∙ c.in_ok-scaled.ensures {u = tt} ∙ ap (λ z. unit_all i (unsigned_abs z) S) back)).0

pub returns : goal.returns
returns c =
    let i = c.args.last in
    let S = c.args.system.now in
    let k = c.in_ok-scale.scale in
    let d = c.in_ok-period.period in
    let fk : FitsSigned w128 k = search rules in
    let fd : FitsSigned w128 d = search rules in
    let back = to_z-of_z w128 k fk in
    let other = to_z-of_z w128 d fd in
    let scale = c.in_ok-scale.ensures {u = tt} in
    let period = c.in_ok-period.ensures {u = tt} in
    let R = c.in_ok-scaled.scaled.items in
    let b = c.in_ok-bases.bases in
    let is = c.in_ok-scaled.ensures {u = tt} ∙ ap (λ z. unit_all i (unsigned_abs z) S) back in
    let whole = step_of i S R k d b.direction b.bounds.items c.requires scale.0 scale.1 is period.0 (subst (λ T. IsPeriod i T (unsigned_abs d)) c.deref.ensures.value period.1)
    (subst (λ T. AreBases i T b.direction b.bounds.items) c.deref-2.ensures.value (c.in_ok-bases.ensures {u = tt})) in
    subst (λ z. IsStepOf i S z (to_z w128 (of_z w128 d)) R b.direction b.bounds.items) (sym back) (subst (λ z. IsStepOf i S k z R b.direction b.bounds.items) (sym other) whole)
