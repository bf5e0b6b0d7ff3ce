use Rattle.std.proofs.Common.{◌≡◌, length}
use Rattle.lin_solve.proofs.mend.mend.Given as goal

abbrev pub invariant-loop : goal.invariant-loop
invariant-loop l = length l.values.items ≡ 8
