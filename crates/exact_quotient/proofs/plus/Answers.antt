use Rattle.std.proofs.Common.{◌≡◌, ap, sym, ◌∙◌, subst, to_z, of_z, ◌^◌, rules, suc}
use Rattle.std.specs.Prelude.{ℤ, pos, neg_ℤ, ◌+ℤ◌, ◌*ℤ◌, ◌≤ℤ◌, FitsSigned}
use Rattle.std.specs.Int.{w128}
use Rattle.std.proofs.lemmas.Int.{to_z-of_z}
use Rattle.exact_quotient.specs.Limbs.{IsWithin}
use Rattle.exact_quotient.proofs.Steps.{sum_back, plus_worth, within_more, top_small, worth_sum}
use Rattle.exact_quotient.proofs.plus.Goals as goal

pub product-high-requires-clause-part : goal.product-high-requires-clause-part
product-high-requires-clause-part c =
    let e = c.split-first.ensures in
    let d = c.split-second.ensures in
    let fa = c.ranges.a in
    let ff : FitsSigned w128 c.split-first.result.above = search rules in
    let fs : FitsSigned w128 c.split-second.result.above = search rules in
    let g = c.split-second.result.above in
    subst (λ z. (neg_ℤ (pos (2 ^ 43)) ≤ℤ z) × (z ≤ℤ pos (2 ^ 43))) (sym (to_z-of_z w128 g fs))
    (top_small c.args.a c.split-first.result.above c.split-first.result.low g c.split-second.result.low fa (sym (to_z-of_z w128 c.args.a fa) ∙ e.exact) e.natural e.small (sym (to_z-of_z w128 c.split-first.result.above ff) ∙ d.exact) d.natural d.small)

pub returns-clause-value : goal.returns-clause-value
returns-clause-value c =
    let e = c.split-first.ensures in
    let d = c.split-second.ensures in
    let fa = c.ranges.a in
    let fv = c.ranges.v in
    let ff : FitsSigned w128 c.split-first.result.above = search rules in
    let fs : FitsSigned w128 c.split-second.result.above = search rules in
    let fk : FitsSigned w128 c.split-first.result.low = search rules in
    let fm : FitsSigned w128 c.split-second.result.low = search rules in
    let v = c.args.v in
    let back : (z : ℤ) → FitsSigned w128 z → to_z w128 (of_z w128 z) *ℤ to_z w128 (of_z w128 v) ≡ z *ℤ v = λ z f k. to_z-of_z w128 z f k *ℤ to_z-of_z w128 v fv k in
    let high = sum_back c.args.sum.high c.product-high.result c.requires.small.0 c.product-high.ensures.small ∙ ap (λ z. c.args.sum.high +ℤ z) (c.product-high.ensures.value ∙ back c.split-second.result.above fs) in
    let mid = sum_back c.args.sum.mid c.product-mid.result c.requires.small.1 c.product-mid.ensures.small ∙ ap (λ z. c.args.sum.mid +ℤ z) (c.product-mid.ensures.value ∙ back c.split-second.result.low fm) in
    let low = sum_back c.args.sum.low c.product-low.result c.requires.small.2 c.product-low.ensures.small ∙ ap (λ z. c.args.sum.low +ℤ z) (c.product-low.ensures.value ∙ back c.split-first.result.low fk) in
    let all = plus_worth c.args.a v c.split-first.result.above c.split-first.result.low c.split-second.result.above c.split-second.result.low (sym (to_z-of_z w128 c.args.a fa) ∙ e.exact) (sym (to_z-of_z w128 c.split-first.result.above ff) ∙ d.exact) in
    (λ k. ((pos (2 ^ 86) *ℤ high k) +ℤ (pos (2 ^ 43) *ℤ mid k)) +ℤ low k) ∙ worth_sum c.args.sum.high c.args.sum.mid c.args.sum.low (c.split-second.result.above *ℤ v) (c.split-second.result.low *ℤ v) (c.split-first.result.low *ℤ v) (c.args.a *ℤ v) all

pub returns-clause-small : goal.returns-clause-small
returns-clause-small c n s = (
  subst (IsWithin (suc n)) (sym (sum_back c.args.sum.high c.product-high.result c.requires.small.0 c.product-high.ensures.small)) (within_more n c.args.sum.high c.product-high.result s.0 c.product-high.ensures.small),
  subst (IsWithin (suc n)) (sym (sum_back c.args.sum.mid c.product-mid.result c.requires.small.1 c.product-mid.ensures.small)) (within_more n c.args.sum.mid c.product-mid.result s.1 c.product-mid.ensures.small),
  subst (IsWithin (suc n)) (sym (sum_back c.args.sum.low c.product-low.result c.requires.small.2 c.product-low.ensures.small)) (within_more n c.args.sum.low c.product-low.result s.2 c.product-low.ensures.small),
)
