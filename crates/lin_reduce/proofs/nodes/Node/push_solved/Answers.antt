use Rattle.lin_reduce.proofs.Splitting.{grown, added}
use Rattle.lin_reduce.proofs.nodes.Node.push_solved.Goals as goal

pub returns-clause-part : goal.returns-clause-part
returns-clause-part c = λ s. added c.args.count _ _ _ (c.in_ok-push.ensures {u = tt}).items (c.in_ok-solved.ensures {u = tt} s)

pub returns-clause-kept : goal.returns-clause-kept
returns-clause-kept c = λ a. grown c.args.count _ _ _ (c.in_ok-push.ensures {u = tt}).items a
