use Rattle.std.proofs.Common.{◌≡◌, drop}
use Rattle.lin_solve.proofs.Last.{last_behind}
use Rattle.lin_solve.specs.Kept.{stand_last}
use Rattle.lin_solve.proofs.repeats.sided_stand_last.Given as goal

abbrev pub invariant-loop-literal : goal.invariant-loop-literal
invariant-loop-literal l = stand_last l.literals ≡ last_behind l.sided (drop l.literal-index l.literals)
