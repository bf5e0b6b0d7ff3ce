use Rattle.std.proofs.Common.{◌≡◌, sym, ◌∙◌, arith, subst, rules}
use Rattle.std.specs.Prelude.{negsuc, ◌+ℤ◌, ◌*ℤ◌, neg_ℤ, FitsSigned}
use Rattle.std.specs.Int.{w128, int_div_euclid, int_rem_euclid}
use Rattle.std.proofs.lemmas.Int.{ints, to_z-of_z}
use Rattle.math_int.specs.Whole.{IsFloor}
use Rattle.wide_num.proofs.Answered.{match_iff}
use Rattle.math_int.proofs.Floors.{euclid, floor_minus_one, floor_once, floor_less, floor_even, euclid_range}
use Rattle.wide_num.proofs.div_floor.Goals as goal
use Rattle.wide_num.proofs.div_floor.Goals.{else-b-lt0-via-then-b-lt0+else-rem_euclid-ne0, else-b-lt0-via-else-b-lt0}

pub returns-then-b-eqminus1 : goal.returns-then-b-eqminus1
returns-then-b-eqminus1 c =
    let fa = c.ranges.a in
    let fb = c.ranges.b in
    let e : c.args.b ≡ negsuc 0 = omega (arith, ints) in
    let h = simp to_z-of_z at c.checked_neg.ensures in
    let is = subst (λ b. IsFloor c.args.a b (neg_ℤ c.args.a)) (sym e) (floor_minus_one c.args.a) in
    match_iff _ _ _ _ (λ q. IsFloor c.args.a c.args.b q)
    (λ no q f fits. no (subst (FitsSigned w128) (floor_once c.args.a c.args.b q (neg_ℤ c.args.a) c.requires f is) fits))
    (λ _. is) h

pub returns-then-rem_euclid-ne0 : goal.returns-then-rem_euclid-ne0
returns-then-rem_euclid-ne0 c =
    let fa = c.ranges.a in
    let fb = c.ranges.b in
    let fq : FitsSigned w128 c.div_euclid-quotient.result = search rules in
    let fr : FitsSigned w128 c.rem_euclid.result = search rules in
    let q = simp to_z-of_z at c.div_euclid-quotient.ensures in
    let r = simp to_z-of_z at c.rem_euclid.ensures.value in
    let h = simp to_z-of_z at c.checked_sub.ensures in
    let split : c.args.a ≡ (c.args.b *ℤ c.div_euclid-quotient.result) +ℤ c.rem_euclid.result = euclid c.args.a c.args.b c.requires ∙ (λ i. (c.args.b *ℤ sym q i) +ℤ sym r i) in
    let is = floor_less c.args.a c.args.b c.div_euclid-quotient.result c.rem_euclid.result split (omega (arith, ints)) (omega (arith, ints)) (omega (arith, ints)) in
    match_iff _ _ _ _ (λ q. IsFloor c.args.a c.args.b q)
    (λ no q f fits. no (subst (FitsSigned w128) (floor_once c.args.a c.args.b q _ c.requires f is) fits))
    (λ _. is) h

pub returns-else-b-lt0 : goal.returns-else-b-lt0
returns-else-b-lt0 c =
    let fa = c.ranges.a in
    let fb = c.ranges.b in
    let fq : FitsSigned w128 c.div_euclid-quotient.result = search rules in
    let q = simp to_z-of_z at c.div_euclid-quotient.ensures in
    let split = euclid c.args.a c.args.b c.requires in
    let is : IsFloor c.args.a c.args.b (int_div_euclid c.args.a c.args.b) = floor_even c.args.a c.args.b _ (int_rem_euclid c.args.a c.args.b) split
    (λ h. euclid_range c.args.a c.args.b h)
    (λ h. elim c.else-b-lt0.branch [
      | else-b-lt0-via-then-b-lt0+else-rem_euclid-ne0 w ↦ (let r = simp to_z-of_z at w.rem_euclid.ensures.value in omega (arith, ints))
      | else-b-lt0-via-else-b-lt0 w ↦ absurd (omega (arith, ints))
    ]) in
    subst (IsFloor c.args.a c.args.b) (sym (to_z-of_z w128 _ fq ∙ q)) is
