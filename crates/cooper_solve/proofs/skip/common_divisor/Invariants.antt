use Rattle.std.proofs.Common.{take}
use Rattle.std.specs.Prelude.{pos, ◌<ℤ◌, unsigned_abs}
use Rattle.std.specs.Int.{◌∣◌}
use Rattle.std.specs.List.{All}
use Rattle.cooper_solve.proofs.skip.common_divisor.Given as goal

abbrev pub invariant-loop-a : goal.invariant-loop-a
invariant-loop-a l = record {
  positive : pos 0 <ℤ l.all;
  divides : unsigned_abs l.all ∣ unsigned_abs l.divisor;
  each : All (λ a. unsigned_abs l.all ∣ unsigned_abs a) (take l.a-index l.row);
}
