use Rattle.std.proofs.Common.{◌+◌, ◌*◌, take}
use Rattle.std.specs.Prelude.{pos, ◌≤ℤ◌, ◌-ℤ◌, unsigned_abs}
use Rattle.std.specs.List.{All}
use Rattle.cooper_solve.specs.Told.{NoneBelow}
use Rattle.cooper_solve.proofs.search.+solve.Given as goal

abbrev pub decreases-solve : goal.decreases-solve
decreases-solve l = 5 * l.count

abbrev pub decreases-over_bounds : goal.decreases-over_bounds
decreases-over_bounds l = 5 * l.last + 4

abbrev pub decreases-at_bound : goal.decreases-at_bound
decreases-at_bound l = 5 * l.last + 3

abbrev pub decreases-at_offset : goal.decreases-at_offset
decreases-at_offset l = 5 * l.last + 2

abbrev pub decreases-go_on : goal.decreases-go_on
decreases-go_on l = 5 * l.last + 1

abbrev pub invariant-at_bound-loop-offset : goal.invariant-at_bound-loop-offset
invariant-at_bound-loop-offset l = record {
  natural : pos 0 ≤ℤ l.offset;
  most : l.offset ≤ℤ l.step.period;
  none : NoneBelow l.last l.step.direction l.step.scaled.items l.bound l.offset;
}

abbrev pub decreases-at_bound-loop-offset : goal.decreases-at_bound-loop-offset
decreases-at_bound-loop-offset l = unsigned_abs (l.step.period -ℤ l.offset)

abbrev pub invariant-over_bounds-loop-bound : goal.invariant-over_bounds-loop-bound
invariant-over_bounds-loop-bound l = All (λ k. NoneBelow l.last l.step.direction l.step.scaled.items k (pos (unsigned_abs l.step.period))) (take l.bound-index l.bound-items)
