use Rattle.std.proofs.Common.{take}
use Rattle.std.specs.Prelude.{pos, ◌<ℤ◌, unsigned_abs}
use Rattle.cooper_solve.specs.Multiples.{IsLeastMultiple}
use Rattle.cooper_solve.proofs.lcm.least_multiple.Given as goal

abbrev pub invariant-loop-number : goal.invariant-loop-number
invariant-loop-number l = record {
  some : pos 0 <ℤ l.all;
  least : IsLeastMultiple (take l.number-index l.numbers) (unsigned_abs l.all);
}
