use Rattle.std.proofs.Common.{take}
use Rattle.std.specs.Prelude.{FitsSigned}
use Rattle.std.specs.Int.{w128}
use Rattle.std.specs.List.{All}
use Rattle.cooper_solve.proofs.fit.row_fits.Given as goal

abbrev pub invariant-loop-a : goal.invariant-loop-a
invariant-loop-a l = All (FitsSigned w128) (take l.a-index l.row)
