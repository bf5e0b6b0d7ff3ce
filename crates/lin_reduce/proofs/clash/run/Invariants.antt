use Rattle.math_cooper.specs.System.{IsSolvable}
use Rattle.lin_reduce.specs.Parts.{AnySolvable}
use Rattle.lin_reduce.proofs.clash.run.Given as goal

abbrev pub invariant-loop : goal.invariant-loop
invariant-loop l = IsSolvable l.count l.system → AnySolvable l.count l.pending.items
