use Rattle.std.proofs.Common.{ap, rules, arith, length, set, ◌<◌}
use Rattle.std.specs.Prelude.{ℤ, FitsSigned}
use Rattle.std.specs.Int.{w128}
use Rattle.std.proofs.lemmas.Int.{to_z-of_z}
use Rattle.lin_reduce.proofs.Cutting.{dot_single}
use Rattle.lin_reduce.proofs.cut.single.Goals as goal

pub returns : goal.returns
returns c = λ vs e.
    let row = c.in_ok-row.row.items in
    let ft : FitsSigned w128 c.args.times = search rules in
    let low : c.args.of < length row = (let n = c.len.ensures in let l = c.if-of-len.false in omega arith) in
    dot_single c.args.count c.args.of c.args.times row _ vs (c.in_ok-row.ensures {u = tt}) (ap (λ (z : ℤ). set row c.args.of z) (to_z-of_z w128 c.args.times ft)) low e
