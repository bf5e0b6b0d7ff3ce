use Rattle.std.proofs.Common.{◌≡◌, map, take}
use Rattle.std.specs.Prelude.{◌*ℤ◌}
use Rattle.cooper_solve.proofs.hopeless.divided_row.Given as goal

abbrev pub invariant-loop-number : goal.invariant-loop-number
invariant-loop-number l = map (λ a. l.by *ℤ a) l.out.items ≡ take l.number-index l.row
