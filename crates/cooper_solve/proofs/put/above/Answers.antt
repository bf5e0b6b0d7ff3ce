use Rattle.std.proofs.Common.{◌≡◌, ap, subst, ◌∙◌, rules, map, take, to_z, of_z}
use Rattle.std.proofs.Math.IntN.{ℤ, ◌-ℤ◌, neg_ℤ}
use Rattle.std.specs.Prelude.{unsigned_abs, FitsSigned}
use Rattle.std.specs.Int.{w128}
use Rattle.std.specs.List.{Contains}
use Rattle.std.proofs.lemmas.Int.{to_z-of_z}
use Rattle.std.proofs.lemmas.Result.{err_from_is_err_and}
use Rattle.math_cooper.specs.System.{Condition, low_form}
use Rattle.math_cooper.specs.Puts.{IsWide}
use Rattle.cooper_solve.specs.Views.{WideInForm}
use Rattle.cooper_solve.proofs.Scaled.{wide_exit}
use Rattle.cooper_solve.proofs.Putting.{low_is, low_wide_row, low_wide_constant}
use Rattle.cooper_solve.proofs.put.above.Goals as goal

pub returns-in_err-coefficients : goal.returns-in_err-coefficients
returns-in_err-coefficients c =
    let p = err_from_is_err_and c.from_residual.result c.from_residual.ensures.1 in
    let i = c.args.last in
    let x = c.args.constraint.now in
    let j = unsigned_abs c.args.offset in
    let W = (a : ℤ) × Contains (take i c.deref.result.now) a × IsWide (neg_ℤ a) in
    wide_exit c.from_residual.result (λ g. g ≡ low_form i x j) W (WideInForm (low_form i x j)) p.0 c.in_err-coefficients.field-0.0 p.1 p.2
    (λ (a, h, w). low_wide_row i x j a (subst (λ l. Contains (take i l) a) (c.deref.ensures.value ∙ ap (λ (y : Condition). y.coefficients) c.constraint.view_is) h) w)
    (c.in_err-coefficients.ensures {u = tt})

pub returns-in_default : goal.returns-in_default
returns-in_default c =
    let fx : FitsSigned w128 c.constraint.inside.constant = search rules in
    let same = to_z-of_z w128 c.constraint.inside.constant fx ∙ ap (λ (y : Condition). y.constant) c.constraint.view_is in
    low_wide_constant c.args.last c.args.constraint.now c.args.offset c.requires.natural
    (subst (λ z. IsWide (c.args.offset -ℤ z)) same (subst (λ z. IsWide (z -ℤ to_z w128 (of_z w128 c.constraint.inside.constant))) (to_z-of_z w128 c.args.offset c.ranges.offset) (c.in_default.ensures {u = tt})))

pub returns : goal.returns
returns c =
    let fx : FitsSigned w128 c.constraint.inside.constant = search rules in
    let fs : FitsSigned w128 c.in-Some.constant = search rules in
    let same = to_z-of_z w128 c.constraint.inside.constant fx ∙ ap (λ (y : Condition). y.constant) c.constraint.view_is in
    low_is c.args.last c.args.constraint.now c.args.offset (record { constant = to_z w128 (of_z w128 c.in-Some.constant); coefficients = c.in_ok-coefficients.coefficients.items }) c.requires.natural
    (to_z-of_z w128 c.in-Some.constant fs ∙ (c.in-Some.ensures {u = tt}).1 ∙ (λ j. to_z-of_z w128 c.args.offset c.ranges.offset j -ℤ same j))
    (c.in_ok-coefficients.ensures {u = tt} ∙ ap (λ l. map neg_ℤ (take c.args.last l)) (c.deref.ensures.value ∙ ap (λ (y : Condition). y.coefficients) c.constraint.view_is))
