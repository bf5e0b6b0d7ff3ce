use Rattle.std.proofs.Common.{sym, subst}
use Rattle.cooper_solve.specs.Sums.{IsAtLeast}
use Rattle.cooper_solve.proofs.hopeless.push_sums.Goals as goal

pub loop-other-preserved : goal.loop-other-preserved
loop-other-preserved c = λ vs all own old.
    let it = c.other-item.result in
    c.in_ok-push_sum.ensures {u = tt} vs own (subst (IsAtLeast vs) (sym c.other-item.is) (all c.loop-other.other-index it c.loop-other-test.true)) (c.loop-other.invariant vs all own old)
