use Rattle.std.proofs.Common.{ap, ◌∙◌, arith, ◌^◌}
use Rattle.std.specs.Prelude.{pos, ◌+ℤ◌, ◌*ℤ◌}
use Rattle.std.specs.Int.{w128}
use Rattle.std.proofs.lemmas.Int.{to_z-of_z}
use Rattle.exact_quotient.specs.Limbs.{worth}
use Rattle.exact_quotient.proofs.Steps.{is_under_by, more, turned_back, turned_within, turn_worth}
use Rattle.exact_quotient.proofs.is_under.Goals as goal

pub is_positive-requires : goal.is_positive-requires
is_positive-requires c =
    let w = c.requires.small in
    more 9 c.plus.result (omega arith) (c.plus.ensures.small 9 (turned_within c.args.sum.high w.0, turned_within c.args.sum.mid w.1, turned_within c.args.sum.low w.2))

pub returns : goal.returns
returns c =
    let p = c.is_positive.ensures in
    let w = more 8 c.args.sum (omega arith) c.requires.small in
    let turned = turn_worth c.args.sum.high c.args.sum.mid c.args.sum.low in
    let v = c.plus.ensures.value
    ∙ (λ j. (((pos (2 ^ 86) *ℤ turned_back c.args.sum.high w.0 j) +ℤ (pos (2 ^ 43) *ℤ turned_back c.args.sum.mid w.1 j)) +ℤ turned_back c.args.sum.low w.2 j) +ℤ (to_z-of_z w128 c.args.c c.ranges.c j *ℤ to_z-of_z w128 c.args.x c.ranges.x j))
    ∙ ap (λ z. z +ℤ (c.args.c *ℤ c.args.x)) turned in
    let k = is_under_by c.args.c c.args.x (worth c.args.sum) (worth c.plus.result) v in
    (λ q. k.0 (p.0 q), λ q. p.1 (k.1 q))
