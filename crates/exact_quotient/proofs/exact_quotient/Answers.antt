use Rattle.std.proofs.Common.{◌≡◌, ap, sym, ◌∙◌, subst, to_z, of_z, ◌<◌, rules}
use Rattle.std.specs.Prelude.{unsigned_abs, ◌-ℤ◌, pos, ◌+ℤ◌, ◌*ℤ◌, ◌≤ℤ◌, ◌<ℤ◌, FitsSigned}
use Rattle.std.specs.Int.{w64, w128}
use Rattle.std.proofs.lemmas.Int.{to_z-of_z}
use Rattle.math_cooper.specs.System.{dot}
use Rattle.exact_quotient.specs.Limbs.{worth}
use Rattle.exact_quotient.proofs.Steps.{ended, not_less, not_more, neither, between, nearer_low, nearer_high, next_fits, next_le, never, above_middle, not_above_middle}
use Rattle.exact_quotient.proofs.exact_quotient.Goals as goal

pub is_over-requires-clause-x : goal.is_over-requires-clause-x
is_over-requires-clause-x c =
    let i = c.loop-low.invariant in
    let f : FitsSigned w128 c.middle_of-middle.result = search rules in
    subst (FitsSigned w64) (sym (to_z-of_z w128 c.middle_of-middle.result f)) (between _ _ _ i.low i.high c.middle_of-middle.ensures.from c.middle_of-middle.ensures.to)

pub loop-low-smaller-then-is_over : goal.loop-low-smaller-then-is_over
loop-low-smaller-then-is_over c =
    let i = c.loop-low.invariant in
    let e = c.middle_of-middle.ensures in
    let f1 = next_fits c.middle_of-middle.result (to_z w128 c.loop-low.high-bits) i.high (between _ _ _ i.low i.high e.from e.to) e.to in
    subst (λ z. unsigned_abs (to_z w128 c.loop-low.high-bits -ℤ z) < unsigned_abs (to_z w128 c.loop-low.high-bits -ℤ to_z w128 c.loop-low.low-bits)) (sym f1.0) (nearer_low (to_z w128 c.loop-low.low-bits) (to_z w128 c.loop-low.high-bits) c.middle_of-middle.result e.from e.to)

pub loop-low-preserved-then-is_over : goal.loop-low-preserved-then-is_over
loop-low-preserved-then-is_over c =
    let i = c.loop-low.invariant in
    let e = c.middle_of-middle.ensures in
    let m = c.middle_of-middle.result in
    let f : FitsSigned w128 m = search rules in
    let f1 = next_fits m (to_z w128 c.loop-low.high-bits) i.high (between _ _ _ i.low i.high e.from e.to) e.to in
    let fc = to_z-of_z w128 c.args.c c.ranges.c in
    let fm = to_z-of_z w128 m f in
    let back : to_z w128 (of_z w128 (to_z w128 (of_z w128 m) +ℤ pos 1)) ≡ m +ℤ pos 1 = f1.0 in
    let over : (c.args.c *ℤ m) <ℤ worth c.value_of-sum.result = subst (λ z. z <ℤ worth c.value_of-sum.result) (λ k. fc k *ℤ fm k) (c.is_over.ensures.0 c.if-is_over.true) in
    record {
      order = subst (λ z. z ≤ℤ to_z w128 c.loop-low.high-bits) (sym back) (f1.2);
      low = subst (FitsSigned w64) (sym back) f1.1;
      high = i.high;
      within = λ x fx ex. (subst (λ z. z ≤ℤ x) (sym back) (next_le m x (above_middle c.args.c m x _ c.requires.c over (sym (ap (λ z. z *ℤ x) fc) ∙ ex))), (i.within x fx ex).1);
    }

pub loop-low-smaller : goal.loop-low-smaller
loop-low-smaller c =
    let e = c.middle_of-middle.ensures in
    let f : FitsSigned w128 c.middle_of-middle.result = search rules in
    subst (λ z. unsigned_abs (z -ℤ to_z w128 c.loop-low.low-bits) < unsigned_abs (to_z w128 c.loop-low.high-bits -ℤ to_z w128 c.loop-low.low-bits)) (sym (to_z-of_z w128 c.middle_of-middle.result f)) (nearer_high (to_z w128 c.loop-low.low-bits) (to_z w128 c.loop-low.high-bits) c.middle_of-middle.result e.from e.to)

pub loop-low-preserved : goal.loop-low-preserved
loop-low-preserved c =
    let i = c.loop-low.invariant in
    let e = c.middle_of-middle.ensures in
    let m = c.middle_of-middle.result in
    let f : FitsSigned w128 m = search rules in
    let fc = to_z-of_z w128 c.args.c c.ranges.c in
    let fm = to_z-of_z w128 m f in
    let not : (c.args.c *ℤ m) <ℤ worth c.value_of-sum.result → ⊥ = λ h. never (sym c.if-is_over.false ∙ c.is_over.ensures.1 (subst (λ z. z <ℤ worth c.value_of-sum.result) (sym (λ k. fc k *ℤ fm k)) h)) in
    record {
      order = subst (λ z. to_z w128 c.loop-low.low-bits ≤ℤ z) (sym fm) e.from;
      low = i.low;
      high = subst (FitsSigned w64) (sym fm) (between _ _ _ i.low i.high e.from e.to);
      within = λ x fx ex. ((i.within x fx ex).0, subst (λ z. x ≤ℤ z) (sym fm) (not_above_middle c.args.c m x _ c.requires.c not (sym (ap (λ z. z *ℤ x) fc) ∙ ex)));
    }

pub returns-then-is_over-2 : goal.returns-then-is_over-2
returns-then-is_over-2 c x fx ex =
    let fc = to_z-of_z w128 c.args.c c.ranges.c in
    let fk = to_z-of_z w128 c.args.constant c.ranges.constant in
    let value = c.value_of-sum.ensures.value ∙ ap (λ z. dot c.args.coefficients.now c.args.values.now +ℤ z) fk in
    let is = ex ∙ sym value in
    let at = c.loop-low.invariant.within x fx (ap (λ z. z *ℤ x) fc ∙ is) in
    let same = ended (to_z w128 c.loop-low.low-bits) (to_z w128 c.loop-low.high-bits) x at.0 at.1 c.loop-low-test.false in
    let over = c.is_over-2.ensures.0 c.if-is_over-2.true in
    not_less _ _ over (λ k. fc k *ℤ sym same k) is

pub returns-then-is_under : goal.returns-then-is_under
returns-then-is_under c x fx ex =
    let fc = to_z-of_z w128 c.args.c c.ranges.c in
    let fk = to_z-of_z w128 c.args.constant c.ranges.constant in
    let value = c.value_of-sum.ensures.value ∙ ap (λ z. dot c.args.coefficients.now c.args.values.now +ℤ z) fk in
    let is = ex ∙ sym value in
    let at = c.loop-low.invariant.within x fx (ap (λ z. z *ℤ x) fc ∙ is) in
    let same = ended (to_z w128 c.loop-low.low-bits) (to_z w128 c.loop-low.high-bits) x at.0 at.1 c.loop-low-test.false in
    let under = c.is_under.ensures.0 c.if-is_under.true in
    not_more _ _ under (λ k. fc k *ℤ sym same k) is

pub returns : goal.returns
returns c =
    let fc = to_z-of_z w128 c.args.c c.ranges.c in
    let fk = to_z-of_z w128 c.args.constant c.ranges.constant in
    let value = c.value_of-sum.ensures.value ∙ ap (λ z. dot c.args.coefficients.now c.args.values.now +ℤ z) fk in
    let low = to_z w128 c.loop-low.low-bits in
    (c.loop-low.invariant.low, sym (ap (λ z. z *ℤ low) fc) ∙ neither (to_z w128 (of_z w128 c.args.c) *ℤ low) (worth c.value_of-sum.result) (λ h. never (sym c.if-is_over-2.false ∙ c.is_over-2.ensures.1 h)) (λ h. never (sym c.if-is_under.false ∙ c.is_under.ensures.1 h)) ∙ value)
