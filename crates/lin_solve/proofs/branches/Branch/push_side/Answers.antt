use Rattle.std.proofs.Common.{List, sym, subst}
use Rattle.model_chain.specs.Literals.{HoldsAll}
use Rattle.label_core.specs.declared.theory.Lit.{Lit}
use Rattle.lin_solve.specs.declared.compare.Compare.{Compare}
use Rattle.lin_solve.specs.Plain.{plain_literals}
use Rattle.lin_solve.specs.Sought.{IsSidedAt}
use Rattle.lin_solve.proofs.Among.{some_added, some_grown}
use Rattle.lin_solve.proofs.branches.Branch.push_side.Goals as goal

pub returns-clause-side : goal.returns-clause-side
returns-clause-side c = λ us eight h side. some_added _ _ _ (c.in_ok-push.ensures {u = tt}).items (record { values = us; eight = eight; hold = c.in_ok-literals.ensures {u = tt} us (subst (λ ls. HoldsAll (plain_literals ls) us) (sym c.deref.ensures.value) h) (subst (λ (ls : List (Lit Compare)). IsSidedAt ls c.args.place c.args.turned us) (sym c.deref.ensures.value) side) })

pub returns-clause-kept : goal.returns-clause-kept
returns-clause-kept c = λ s. some_grown _ _ _ (c.in_ok-push.ensures {u = tt}).items s
