use Rattle.std.proofs.Common.{◌≡◌, length}
use Rattle.lin_solve.proofs.guess.repair_each.Given as goal

abbrev pub invariant-loop-literal : goal.invariant-loop-literal
invariant-loop-literal l = length l.values.items ≡ length l.fn.values.items
