use Rattle.std.specs.Prelude.{pos, ◌≤ℤ◌}
use Rattle.cooper_solve.specs.Views.{NoneFrom}
use Rattle.cooper_solve.proofs.skip.skip.Given as goal

abbrev pub invariant-loop-i : goal.invariant-loop-i
invariant-loop-i l = record {
  natural : pos 0 ≤ℤ l.most;
  most : l.most ≤ℤ l.left;
  none : NoneFrom l.last l.direction l.system l.after l.most;
}
