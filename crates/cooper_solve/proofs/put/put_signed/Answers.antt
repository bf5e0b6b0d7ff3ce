use Rattle.std.proofs.Common.{◌≡◌, ap, subst, ◌∙◌, rules, take, to_z, of_z, arith}
use Rattle.std.proofs.Math.IntN.{◌+ℤ◌, ◌*ℤ◌}
use Rattle.std.specs.Prelude.{FitsSigned}
use Rattle.std.specs.Int.{w128}
use Rattle.std.proofs.lemmas.Int.{to_z-of_z}
use Rattle.std.proofs.lemmas.Result.{err_from_is_err_and}
use Rattle.math_cooper.specs.System.{Condition, Affine, put, add_times}
use Rattle.math_cooper.specs.Puts.{IsWide}
use Rattle.cooper_solve.specs.Kinds.{kind_of}
use Rattle.cooper_solve.specs.Views.{WideIn, WideSum, one}
use Rattle.cooper_solve.proofs.Scaled.{wide_exit}
use Rattle.std.proofs.lemmas.List.{length-take}
use Rattle.cooper_solve.proofs.Putting.{put_is, put_wide_row, put_wide_constant}
use Rattle.cooper_solve.proofs.put.put_signed.Goals as goal

pub returns-in_err-coefficients : goal.returns-in_err-coefficients
returns-in_err-coefficients c =
    let p = err_from_is_err_and c.from_residual.result c.from_residual.ensures.1 in
    let i = c.args.last in
    let x = c.args.constraint.now in
    let g = c.args.form.now in
    let row = c.deref.ensures.value ∙ ap (λ (y : Condition). y.coefficients) c.constraint.view_is in
    let form = c.deref-2.ensures.value ∙ ap (λ (y : Affine). y.coefficients) c.form.view_is in
    wide_exit c.from_residual.result (λ r. r ≡ put i g x) (WideSum c.args.minus (take i c.deref.result.now) c.deref-2.result.now) (WideIn (put i g x)) p.0 c.in_err-coefficients.field-0.0 p.1 p.2
    (λ w. put_wide_row i g x c.args.minus c.requires.sign (let n = c.requires.wide in let m = c.requires.fits in omega (arith, length-take i x.coefficients))
    (subst (λ l. WideSum c.args.minus (take i x.coefficients) l) form (subst (λ l. WideSum c.args.minus (take i l) c.deref-2.result.now) row w)))
    (c.in_err-coefficients.ensures {u = tt})

pub returns-in_default : goal.returns-in_default
returns-in_default c =
    let fx : FitsSigned w128 c.constraint.inside.constant = search rules in
    let fg : FitsSigned w128 c.form.inside.constant = search rules in
    let constant = to_z-of_z w128 c.constraint.inside.constant fx ∙ ap (λ (y : Condition). y.constant) c.constraint.view_is in
    let other = to_z-of_z w128 c.form.inside.constant fg ∙ ap (λ (y : Affine). y.constant) c.form.view_is in
    put_wide_constant c.args.last c.args.form.now c.args.constraint.now (one c.args.minus) c.requires.sign
    (subst (λ z. IsWide (c.args.constraint.now.constant +ℤ (one c.args.minus *ℤ z))) other (subst (λ z. IsWide (z +ℤ (one c.args.minus *ℤ to_z w128 (of_z w128 c.form.inside.constant)))) constant (c.in_default.ensures {u = tt})))

pub returns : goal.returns
returns c =
    let fx : FitsSigned w128 c.constraint.inside.constant = search rules in
    let fg : FitsSigned w128 c.form.inside.constant = search rules in
    let fs : FitsSigned w128 c.in-Some.constant = search rules in
    let constant = to_z-of_z w128 c.constraint.inside.constant fx ∙ ap (λ (y : Condition). y.constant) c.constraint.view_is in
    let other = to_z-of_z w128 c.form.inside.constant fg ∙ ap (λ (y : Affine). y.constant) c.form.view_is in
    let row = c.deref.ensures.value ∙ ap (λ (y : Condition). y.coefficients) c.constraint.view_is in
    let form = c.deref-2.ensures.value ∙ ap (λ (y : Affine). y.coefficients) c.form.view_is in
    put_is c.args.last c.args.form.now c.args.constraint.now (record { kind = kind_of c.constraint.inside.relation; constant = to_z w128 (of_z w128 c.in-Some.constant); coefficients = c.in_ok-coefficients.coefficients.items }) (one c.args.minus) c.requires.sign
    (ap (λ (y : Condition). y.kind) c.constraint.view_is)
    (to_z-of_z w128 c.in-Some.constant fs ∙ (c.in-Some.ensures {u = tt}).1 ∙ (λ j. constant j +ℤ (one c.args.minus *ℤ other j)))
    (c.in_ok-coefficients.ensures {u = tt} ∙ (λ j. add_times (one c.args.minus) (take c.args.last (row j)) (form j)))
