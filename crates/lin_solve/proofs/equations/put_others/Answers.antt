use Rattle.lin_solve.proofs.Gapped.{literal_here}
use Rattle.lin_solve.proofs.Seeking.{pushed_hold}
use Rattle.lin_solve.proofs.equations.put_others.Goals as goal

pub loop-i-preserved : goal.loop-i-preserved
loop-i-preserved c = λ vs same h.
    let y = c.index-literals-i.result in
    let own = literal_here c.args.literals.now c.loop-i.i y vs c.index-literals-i.is c.loop-i-test.true h in
    pushed_hold c.loop-i.out.items c.push.new.self.items c.in_ok-put_or_copy.field-0 vs (c.in_ok-push.ensures {u = tt}).items (c.in_ok-put_or_copy.ensures {u = tt} vs same own) (c.loop-i.invariant vs same h)
