use Rattle.std.proofs.Common.{sym, subst}
use Rattle.model_chain.specs.Literals.{HoldsAll}
use Rattle.lin_solve.specs.Plain.{plain_literals}
use Rattle.lin_solve.proofs.branches.Branch.push_with.Goals as goal

pub returns-clause-more : goal.returns-clause-more
returns-clause-more c = λ us eight h own. (c.in_ok-push_branch.ensures {u = tt}).held us eight (c.in_ok-own.ensures {u = tt} us (subst (λ ls. HoldsAll (plain_literals ls) us) (sym c.deref.ensures.value) h) own)
