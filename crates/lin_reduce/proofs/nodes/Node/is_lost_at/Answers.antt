use Rattle.std.proofs.Common.{sym, subst, set, length, ◌<◌, arith}
use Rattle.math_cooper.specs.System.{Holds, Solves}
use Rattle.lin_reduce.proofs.Splitting.{single_solves}
use Rattle.lin_reduce.proofs.nodes.Node.is_lost_at.Goals as goal

pub returns : goal.returns
returns c = λ yes n p.
    let x = c.index.result.now in
    let low : c.args.place < length c.args.self.now.system.items = (let e = c.len.ensures in let l = c.if-place-len.false in omega arith) in
    let held = subst (Holds p.values) (sym c.index.ensures) (p.solves c.args.place x low) in
    let after = c.in_ok-scaled.ensures {u = tt} p.values p.own p.part held in
    let ws = set p.values c.args.scale.of p.own in
    c.is_refuted.ensures yes ws (subst (Solves ws) (sym c.deref.ensures.value) (single_solves ws c.in_ok-scaled.field-0 c.push.new.self.items c.new-row.result.items (c.in_ok-push.ensures {u = tt}).items c.new-row.ensures.items after))
