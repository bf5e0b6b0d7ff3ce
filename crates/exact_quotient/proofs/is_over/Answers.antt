use Rattle.std.proofs.Common.{◌∙◌, arith}
use Rattle.std.specs.Prelude.{◌+ℤ◌, ◌*ℤ◌}
use Rattle.std.specs.Int.{w128}
use Rattle.std.proofs.lemmas.Int.{to_z-of_z}
use Rattle.exact_quotient.specs.Limbs.{worth}
use Rattle.exact_quotient.proofs.Steps.{is_over_by, more, neg_back}
use Rattle.exact_quotient.proofs.is_over.Goals as goal

pub is_positive-requires : goal.is_positive-requires
is_positive-requires c = more 9 c.plus.result (omega arith) (c.plus.ensures.small 9 c.requires.small)

pub returns : goal.returns
returns c =
    let p = c.is_positive.ensures in
    let k = is_over_by c.args.c c.args.x (worth c.args.sum) (worth c.plus.result) (c.plus.ensures.value ∙ (λ j. worth c.args.sum +ℤ (neg_back c.args.c c.ranges.c c.requires.c j *ℤ to_z-of_z w128 c.args.x c.ranges.x j))) in
    (λ q. k.0 (p.0 q), λ q. p.1 (k.1 q))
