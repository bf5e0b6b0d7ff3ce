use Rattle.std.proofs.Common.{sym, subst}
use Rattle.math_cooper.specs.System.{Holds}
use Rattle.cooper_solve.proofs.hopeless.inequalities.Goals as goal

pub loop-constraint-preserved : goal.loop-constraint-preserved
loop-constraint-preserved c = λ vs h.
    let it = c.constraint-item.result in
    c.in_ok-push_inequality.ensures {u = tt} vs (subst (Holds vs) (sym c.constraint-item.is) (h c.loop-constraint.constraint-index it c.loop-constraint-test.true)) (c.loop-constraint.invariant vs h)
