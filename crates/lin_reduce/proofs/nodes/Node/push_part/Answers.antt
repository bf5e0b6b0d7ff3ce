use Rattle.std.proofs.Common.{sym, subst}
use Rattle.math_cooper.specs.System.{Solves}
use Rattle.lin_reduce.proofs.Splitting.{grown, added}
use Rattle.lin_reduce.proofs.nodes.Node.push_part.Goals as goal

pub returns-in_ok-push-clause-part : goal.returns-in_ok-push-clause-part
returns-in_ok-push-clause-part c = λ n p. added n _ _ _ (c.in_ok-push.ensures {u = tt}).items (c.in_ok-part.ensures {u = tt} n p)

pub returns-in_ok-push-clause-kept : goal.returns-in_ok-push-clause-kept
returns-in_ok-push-clause-kept c = λ n a. grown n _ _ _ (c.in_ok-push.ensures {u = tt}).items a

pub returns-else-not-is_refuted-clause-part : goal.returns-else-not-is_refuted-clause-part
returns-else-not-is_refuted-clause-part c = λ n p.
    let all = c.in_ok-part.ensures {u = tt} n p in
    absurd (c.is_refuted.ensures c.if-not-is_refuted.false all.0 (subst (Solves all.0) (sym c.deref.ensures.value) all.2))

pub returns-then-branch-clause-part : goal.returns-then-branch-clause-part
returns-then-branch-clause-part c = λ n p. absurd (c.in_ok-is_lost_at.ensures {u = tt} c.if-branch.true n p)
