use Rattle.std.proofs.Common.{◌≡◌, length}
use Rattle.lin_solve.proofs.apart.seek_apart.Given as goal

abbrev pub invariant-loop-field : goal.invariant-loop-field
invariant-loop-field l = length l.values.items ≡ 8
