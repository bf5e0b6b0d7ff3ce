use Rattle.std.proofs.Common.{◌<◌, arith}
use Rattle.lin_reduce.proofs.Splitting.{shear_solvable}
use Rattle.lin_reduce.proofs.nodes.Node.sheared.Goals as goal

pub returns : goal.returns
returns c = λ s.
    let n = c.args.count in
    let low : c.args.shear.of < n = (let l = c.if-shear-count.false in omega arith) in
    let high : c.args.shear.by < n = (let l = c.if-shear-count-2.false in omega arith) in
    shear_solvable n c.args.shear c.args.self.system.items _ low high (λ vs w part h. c.in_ok-system.ensures {u = tt} vs w part h) s
