use Rattle.std.proofs.Common.{◌≡◌, map}
use Rattle.sta_min.proofs.values.values_in.Given as goal

abbrev pub invariant-loop-row : goal.invariant-loop-row
invariant-loop-row g l = map (λ v. v) l.values.items ≡ map (λ r. r.value) l.yielded
