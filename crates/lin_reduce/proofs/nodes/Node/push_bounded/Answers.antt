use Rattle.lin_reduce.proofs.Splitting.{grown, added}
use Rattle.lin_reduce.proofs.nodes.Node.push_bounded.Goals as goal

pub returns-clause-part : goal.returns-clause-part
returns-clause-part c = λ vs e w h. added c.args.count _ _ _ (c.in_ok-push.ensures {u = tt}).items (vs, e, c.in_ok-bounded.ensures {u = tt} vs e w h)

pub returns-clause-kept : goal.returns-clause-kept
returns-clause-kept c = λ a. grown c.args.count _ _ _ (c.in_ok-push.ensures {u = tt}).items a
