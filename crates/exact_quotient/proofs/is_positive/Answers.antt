use Rattle.std.proofs.Common.{sym, arith, subst, refl}
use Rattle.std.specs.Prelude.{pos, ◌+ℤ◌, ◌≤ℤ◌, ◌<ℤ◌, FitsSigned}
use Rattle.std.specs.Int.{w128}
use Rattle.std.proofs.lemmas.Int.{ints, to_z-of_z}
use Rattle.exact_quotient.proofs.Steps.{carried, never, above_1, above_2, above_3, not_above_1, not_above_2}
use Rattle.exact_quotient.proofs.is_positive.Goals as goal

pub returns-then-high-gt0 : goal.returns-then-high-gt0
returns-then-high-gt0 c =
    let s = c.requires in
    let e = c.split-low.ensures in
    let d = c.split-mid.ensures in
    let r = carried c.args.sum.high c.args.sum.mid c.args.sum.low c.split-low.result.above c.split-low.result.low c.split-mid.result.above c.split-mid.result.low s.0 s.1 s.2 e.exact e.natural e.small d.exact d.natural d.small in
    let h : pos 0 <ℤ (c.args.sum.high +ℤ c.split-mid.result.above) = subst (λ z. pos 0 <ℤ z) r.0 (omega (arith, ints, c.if-high-gt0.true)) in
    (λ _. subst (λ z. pos 0 <ℤ z) (sym r.1) (above_1 (c.args.sum.high +ℤ c.split-mid.result.above) c.split-mid.result.low c.split-low.result.low h d.natural e.natural), λ _. refl)

pub returns-then-high-lt0 : goal.returns-then-high-lt0
returns-then-high-lt0 c =
    let s = c.requires in
    let e = c.split-low.ensures in
    let d = c.split-mid.ensures in
    let r = carried c.args.sum.high c.args.sum.mid c.args.sum.low c.split-low.result.above c.split-low.result.low c.split-mid.result.above c.split-mid.result.low s.0 s.1 s.2 e.exact e.natural e.small d.exact d.natural d.small in
    let h : (c.args.sum.high +ℤ c.split-mid.result.above) <ℤ pos 0 = subst (λ z. z <ℤ pos 0) r.0 (omega (arith, ints, c.if-high-lt0.true)) in
    (λ q. absurd (never q), λ p. absurd (not_above_1 (c.args.sum.high +ℤ c.split-mid.result.above) c.split-mid.result.low c.split-low.result.low h d.small e.small (subst (λ z. pos 0 <ℤ z) r.1 p)))

pub returns-then-mid-gt0 : goal.returns-then-mid-gt0
returns-then-mid-gt0 c =
    let s = c.requires in
    let e = c.split-low.ensures in
    let d = c.split-mid.ensures in
    let r = carried c.args.sum.high c.args.sum.mid c.args.sum.low c.split-low.result.above c.split-low.result.low c.split-mid.result.above c.split-mid.result.low s.0 s.1 s.2 e.exact e.natural e.small d.exact d.natural d.small in
    let h : (c.args.sum.high +ℤ c.split-mid.result.above) ≤ℤ pos 0 = subst (λ z. z ≤ℤ pos 0) r.0 (omega (arith, ints, c.if-high-gt0.false)) in
    let h2 : pos 0 ≤ℤ (c.args.sum.high +ℤ c.split-mid.result.above) = subst (λ z. pos 0 ≤ℤ z) r.0 (omega (arith, ints, c.if-high-lt0.false)) in
    let fm : FitsSigned w128 c.split-mid.result.low = omega (arith, ints, d.natural, d.small) in
    let fl : FitsSigned w128 c.split-low.result.low = omega (arith, ints, e.natural, e.small) in
    let m : pos 0 <ℤ c.split-mid.result.low = subst (λ z. pos 0 <ℤ z) (to_z-of_z w128 c.split-mid.result.low fm) (omega (arith, ints, c.if-mid-gt0.true)) in
    (λ _. subst (λ z. pos 0 <ℤ z) (sym r.1) (above_2 (c.args.sum.high +ℤ c.split-mid.result.above) c.split-mid.result.low c.split-low.result.low h2 m e.natural), λ _. refl)

pub returns-then-low-gt0 : goal.returns-then-low-gt0
returns-then-low-gt0 c =
    let s = c.requires in
    let e = c.split-low.ensures in
    let d = c.split-mid.ensures in
    let r = carried c.args.sum.high c.args.sum.mid c.args.sum.low c.split-low.result.above c.split-low.result.low c.split-mid.result.above c.split-mid.result.low s.0 s.1 s.2 e.exact e.natural e.small d.exact d.natural d.small in
    let h : (c.args.sum.high +ℤ c.split-mid.result.above) ≤ℤ pos 0 = subst (λ z. z ≤ℤ pos 0) r.0 (omega (arith, ints, c.if-high-gt0.false)) in
    let h2 : pos 0 ≤ℤ (c.args.sum.high +ℤ c.split-mid.result.above) = subst (λ z. pos 0 ≤ℤ z) r.0 (omega (arith, ints, c.if-high-lt0.false)) in
    let fm : FitsSigned w128 c.split-mid.result.low = omega (arith, ints, d.natural, d.small) in
    let fl : FitsSigned w128 c.split-low.result.low = omega (arith, ints, e.natural, e.small) in
    let m : c.split-mid.result.low ≤ℤ pos 0 = subst (λ z. z ≤ℤ pos 0) (to_z-of_z w128 c.split-mid.result.low fm) (omega (arith, ints, c.if-mid-gt0.false)) in
    let l : pos 0 <ℤ c.split-low.result.low = subst (λ z. pos 0 <ℤ z) (to_z-of_z w128 c.split-low.result.low fl) (omega (arith, ints, c.if-low-gt0.true)) in
    (λ _. subst (λ z. pos 0 <ℤ z) (sym r.1) (above_3 (c.args.sum.high +ℤ c.split-mid.result.above) c.split-mid.result.low c.split-low.result.low h2 d.natural l), λ _. refl)

pub returns : goal.returns
returns c =
    let s = c.requires in
    let e = c.split-low.ensures in
    let d = c.split-mid.ensures in
    let r = carried c.args.sum.high c.args.sum.mid c.args.sum.low c.split-low.result.above c.split-low.result.low c.split-mid.result.above c.split-mid.result.low s.0 s.1 s.2 e.exact e.natural e.small d.exact d.natural d.small in
    let h : (c.args.sum.high +ℤ c.split-mid.result.above) ≤ℤ pos 0 = subst (λ z. z ≤ℤ pos 0) r.0 (omega (arith, ints, c.if-high-gt0.false)) in
    let h2 : pos 0 ≤ℤ (c.args.sum.high +ℤ c.split-mid.result.above) = subst (λ z. pos 0 ≤ℤ z) r.0 (omega (arith, ints, c.if-high-lt0.false)) in
    let fm : FitsSigned w128 c.split-mid.result.low = omega (arith, ints, d.natural, d.small) in
    let fl : FitsSigned w128 c.split-low.result.low = omega (arith, ints, e.natural, e.small) in
    let m : c.split-mid.result.low ≤ℤ pos 0 = subst (λ z. z ≤ℤ pos 0) (to_z-of_z w128 c.split-mid.result.low fm) (omega (arith, ints, c.if-mid-gt0.false)) in
    let l : c.split-low.result.low ≤ℤ pos 0 = subst (λ z. z ≤ℤ pos 0) (to_z-of_z w128 c.split-low.result.low fl) (omega (arith, ints, c.if-low-gt0.false)) in
    (λ q. absurd (never q), λ p. absurd (not_above_2 (c.args.sum.high +ℤ c.split-mid.result.above) c.split-mid.result.low c.split-low.result.low h m l (subst (λ z. pos 0 <ℤ z) r.1 p)))
