use Rattle.lin_solve.proofs.Among.{some_added, some_grown}
use Rattle.lin_solve.proofs.branches.push_branch.Goals as goal

pub returns-clause-held : goal.returns-clause-held
returns-clause-held c = λ us eight h. some_added _ _ _ (c.in_ok-push.ensures {u = tt}).items (record { values = us; eight = eight; hold = c.in_ok-own.ensures {u = tt} us eight h })

pub returns-clause-kept : goal.returns-clause-kept
returns-clause-kept c = λ s. some_grown _ _ _ (c.in_ok-push.ensures {u = tt}).items s
