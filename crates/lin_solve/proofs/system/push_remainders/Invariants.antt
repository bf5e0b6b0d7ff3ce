use Rattle.std.proofs.Common.{◌≡◌, ◌+◌, ◌++◌, drop}
use Rattle.model_chain.specs.Literals.{remainders_conditions}
use Rattle.lin_solve.specs.Plain.{plain_known}
use Rattle.lin_solve.proofs.system.push_remainders.Given as goal

abbrev pub invariant-loop-i : goal.invariant-loop-i
invariant-loop-i l = l.out.items ++ remainders_conditions (plain_known l.known) (8 + l.i) (plain_known (drop l.i l.known)) ≡ l.initial.out.items ++ remainders_conditions (plain_known l.known) 8 (plain_known l.known)
