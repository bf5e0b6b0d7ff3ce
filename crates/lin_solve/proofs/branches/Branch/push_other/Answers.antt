use Rattle.lin_solve.proofs.branches.Branch.push_other.Goals as goal

pub returns-clause-part : goal.returns-clause-part
returns-clause-part c = λ pushed _ us q eight h is. (c.in_ok-pushed.ensures {u = tt}).part pushed us q eight h is
