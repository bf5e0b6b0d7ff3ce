use Rattle.lin_solve.proofs.Among.{some_added, some_grown}
use Rattle.lin_solve.proofs.found.push_side.Goals as goal

pub returns-clause-side : goal.returns-clause-side
returns-clause-side c = λ us h side. some_added _ _ _ (c.in_ok-push.ensures {u = tt}).items (c.in_ok-sided.ensures {u = tt} us h side)

pub returns-clause-kept : goal.returns-clause-kept
returns-clause-kept c = λ us s. some_grown _ _ _ (c.in_ok-push.ensures {u = tt}).items s
