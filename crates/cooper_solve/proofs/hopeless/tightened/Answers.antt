use Rattle.std.proofs.Common.{◌≡◌, ap, sym, ◌∙◌, subst, map, rules, arith, to_z, of_z, Vec, Global}
use Rattle.std.specs.Prelude.{ℤ, ◌*ℤ◌, FitsSigned, IfSome}
use Rattle.std.specs.Int.{w128}
use Rattle.std.proofs.lemmas.Int.{ints, to_z-of_z}
use Rattle.math_int.specs.Whole.{IsFloor}
use Rattle.math_cooper.specs.System.{Affine}
use Rattle.cooper_solve.specs.Sums.{IsAtLeast}
use Rattle.cooper_solve.proofs.Summing.{tighter}
use Rattle.cooper_solve.proofs.hopeless.tightened.Goals as goal

pub returns : goal.returns
returns c = λ vs h.
    let by = c.common_divisor-by.result in
    let q = c.in-Some-div_floor.constant in
    let f : Affine = record { constant = c.form.inside.constant; coefficients = c.form.inside.coefficients.items } in
    let fc : FitsSigned w128 f.constant = search rules in
    let fb : FitsSigned w128 by = search rules in
    let fq : FitsSigned w128 q = search rules in
    let back = to_z-of_z w128 by fb in
    let found = subst (λ o. IfSome o (λ (v : Vec ℤ Global). map (λ a. to_z w128 (of_z w128 by) *ℤ a) v.items ≡ c.deref-2.result.now)) c.in-Some.is (c.in_ok-coefficients.ensures {u = tt}) in
    let row = ap (λ k. map (λ a. k *ℤ a) c.in-Some.coefficients.items) (sym back) ∙ found ∙ c.deref-2.ensures.value in
    let floor = subst (λ k. IsFloor f.constant k q) back (subst (λ n. IsFloor n (to_z w128 (of_z w128 by)) q) (to_z-of_z w128 f.constant fc) (c.in-Some-div_floor.ensures {u = tt})) in
    let some = c.if-by-le1.false in
    let sum = tighter vs by q f c.in-Some.coefficients.items (omega (arith, ints)) row floor (subst (IsAtLeast vs) (sym c.form.view_is) h) in
    subst (IsAtLeast vs) (λ i. record { constant = sym (to_z-of_z w128 q fq) i; coefficients = c.in-Some.coefficients.items }) sum
