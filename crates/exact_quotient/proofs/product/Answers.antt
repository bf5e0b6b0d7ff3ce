use Rattle.std.proofs.Common.{ap, sym, ◌∙◌, arith, subst, to_z, of_z, ◌^◌}
use Rattle.std.specs.Prelude.{pos, neg_ℤ, ◌*ℤ◌, ◌≤ℤ◌}
use Rattle.std.specs.Int.{w128}
use Rattle.std.proofs.lemmas.Int.{ints, to_z-of_z}
use Rattle.exact_quotient.proofs.Steps.{product_small}
use Rattle.exact_quotient.proofs.product.Goals as goal

pub returns-clause-value : goal.returns-clause-value
returns-clause-value c =
    let fp = c.ranges.part in
    let fv = c.ranges.v in
    ap (λ z. to_z w128 (of_z w128 z)) (λ k. to_z-of_z w128 c.args.part fp k *ℤ to_z-of_z w128 c.args.v fv k) ∙ to_z-of_z w128 (c.args.part *ℤ c.args.v) (let s = product_small c.args.part c.args.v c.requires.part c.requires.v in omega (arith, ints))

pub returns-clause-small : goal.returns-clause-small
returns-clause-small c = subst (λ z. (neg_ℤ (pos (2 ^ 106)) ≤ℤ z) × (z ≤ℤ pos (2 ^ 106))) (sym (returns-clause-value c)) (product_small c.args.part c.args.v c.requires.part c.requires.v)
