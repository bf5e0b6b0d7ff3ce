use Rattle.std.proofs.Common.{◌≡◌, ℕ, ◌<◌, get_or}
use Rattle.std.proofs.Math.IntN.{pos}
use Rattle.lin_reduce.proofs.certificate.Sum.is_false.Given as goal

abbrev pub invariant-loop-number : goal.invariant-loop-number
invariant-loop-number l = (k : ℕ) → k < l.number-index → get_or l.number-items k (pos 0) ≡ pos 0
