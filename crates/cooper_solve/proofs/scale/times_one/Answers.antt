use Rattle.std.proofs.Common.{◌≡◌, ap, sym, subst, ◌∙◌, rules, map, take, ◌++◌, ◌∷◌, [], to_z, of_z}
use Rattle.std.proofs.Math.IntN.{ℤ, pos, ◌*ℤ◌}
use Rattle.std.specs.Prelude.{unsigned_abs, FitsSigned}
use Rattle.std.specs.Int.{w128}
use Rattle.std.specs.List.{Contains}
use Rattle.std.proofs.lemmas.Int.{to_z-of_z}
use Rattle.std.proofs.lemmas.Result.{err_from_is_err_and}
use Rattle.math_cooper.specs.System.{Condition, lead, sign, kind_times, times_condition}
use Rattle.math_cooper.specs.Puts.{IsWide}
use Rattle.cooper_solve.specs.Kinds.{kind_of}
use Rattle.cooper_solve.specs.Views.{WideIn, WideKind}
use Rattle.cooper_solve.proofs.Scaled.{wide_exit, wide_coefficient, wide_kind, wide_constant, wide_times, times_is, natural_is}
use Rattle.cooper_solve.proofs.scale.times_one.Goals as goal

pub returns-in_err-coefficients : goal.returns-in_err-coefficients
returns-in_err-coefficients c =
    let p = err_from_is_err_and c.from_residual.result c.from_residual.ensures.1 in
    let k = c.args.k in
    let i = c.args.last in
    let back = to_z-of_z w128 k c.ranges.k in
    let W = (a : ℤ) × Contains (take i c.deref.result.now) a × IsWide (to_z w128 (of_z w128 k) *ℤ a) in
    wide_exit c.from_residual.result (λ r. r ≡ times_condition i (unsigned_abs k) c.args.constraint.now) W (WideIn (times_condition i (unsigned_abs k) c.args.constraint.now)) p.0 c.in_err-coefficients.field-0.0 p.1 p.2
    (λ (a, h, w).
    let list = c.deref.ensures.value ∙ ap (λ (x : Condition). x.coefficients) c.constraint.view_is in
    wide_coefficient i (unsigned_abs k) c.args.constraint.now a (subst (λ l. Contains (take i l) a) list h) (wide_times k a c.requires.positive (subst (λ z. IsWide (z *ℤ a)) back w)))
    (c.in_err-coefficients.ensures {u = tt})

pub returns-in_default : goal.returns-in_default
returns-in_default c =
    let k = c.args.k in
    let back = to_z-of_z w128 k c.ranges.k in
    let kind = ap (λ (x : Condition). x.kind) c.constraint.view_is in
    wide_kind c.args.last (unsigned_abs k) c.args.constraint.now (subst (λ d. WideKind (kind_times (unsigned_abs k) d)) kind (subst (λ z. WideKind (kind_times (unsigned_abs z) (kind_of c.constraint.inside.relation))) back (c.in_default.ensures {u = tt})))

pub returns-in_default-mul : goal.returns-in_default-mul
returns-in_default-mul c =
    let k = c.args.k in
    let x = c.args.constraint.now in
    let back = to_z-of_z w128 k c.ranges.k in
    let fx : FitsSigned w128 c.constraint.inside.constant = search rules in
    let same = to_z-of_z w128 c.constraint.inside.constant fx ∙ ap (λ (y : Condition). y.constant) c.constraint.view_is in
    wide_constant c.args.last (unsigned_abs k) x (wide_times k x.constant c.requires.positive (subst (λ z. FitsSigned w128 (k *ℤ z) → ⊥) same (subst (λ z. FitsSigned w128 (z *ℤ to_z w128 (of_z w128 c.constraint.inside.constant)) → ⊥) back (c.in_default-mul.ensures {u = tt}))))

pub invariant_of-result : goal.invariant_of-result
invariant_of-result c = (c.in-Some.ensures {u = tt}).1

pub returns : goal.returns
returns c =
    let k = c.args.k in
    let i = c.args.last in
    let x = c.args.constraint.now in
    let back = to_z-of_z w128 k c.ranges.k in
    let whole : to_z w128 (of_z w128 k) ≡ pos (unsigned_abs k) = back ∙ sym (natural_is k c.requires.positive) in
    let fx : FitsSigned w128 c.constraint.inside.constant = search rules in
    let fm : FitsSigned w128 c.in-Some-mul.constant = search rules in
    let fl : FitsSigned w128 c.lead.result = search rules in
    let fs : FitsSigned w128 c.sign_of.result = search rules in
    let view = c.constraint.view_is in
    let kind = (c.in-Some.ensures {u = tt}).0 ∙ (λ j. kind_times (unsigned_abs (back j)) (ap (λ (y : Condition). y.kind) view j)) in
    let constant = to_z-of_z w128 c.in-Some-mul.constant fm ∙ (c.in-Some-mul.ensures {u = tt}).1 ∙ (λ j. whole j *ℤ (to_z-of_z w128 c.constraint.inside.constant fx ∙ ap (λ (y : Condition). y.constant) view) j) in
    let list = c.in_ok-coefficients.ensures {u = tt} ∙ (λ j. map (λ a. whole j *ℤ a) (take i ((c.deref.ensures.value ∙ ap (λ (y : Condition). y.coefficients) view) j))) in
    let last : to_z w128 (of_z w128 c.sign_of.result) ≡ sign (lead i x) = to_z-of_z w128 c.sign_of.result fs ∙ c.sign_of.ensures ∙ ap sign (to_z-of_z w128 c.lead.result fl ∙ c.lead.ensures) in
    times_is i (unsigned_abs k) x (record { kind = kind_of c.in-Some.relation; constant = to_z w128 (of_z w128 c.in-Some-mul.constant); coefficients = c.push.new.self.items }) kind constant
    ((c.in_ok-push.ensures {u = tt}).items ∙ (λ j. list j ++ last j ∷ []))
