use Rattle.std.proofs.Common.{◌≡◌, ◌-◌, ◌++◌}
use Rattle.model_chain.specs.Literals.{bounds_conditions}
use Rattle.model_chain.specs.Chains.{least, greatest}
use Rattle.lin_solve.specs.Plain.{plain_known, plain_literals}
use Rattle.lin_solve.proofs.system.push_bounds.Given as goal

abbrev pub invariant-loop-field : goal.invariant-loop-field
invariant-loop-field l = l.out.items ++ bounds_conditions (plain_known l.known) least greatest (plain_literals l.literals) l.field (8 - l.field) ≡ l.initial.out.items ++ bounds_conditions (plain_known l.known) least greatest (plain_literals l.literals) 0 8
