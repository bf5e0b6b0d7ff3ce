use Rattle.std.proofs.Common.{◌≡◌, map, take}
use Rattle.std.specs.Prelude.{◌*ℤ◌}
use Rattle.cooper_solve.proofs.scale.times.Given as goal

abbrev pub invariant-loop-a : goal.invariant-loop-a
invariant-loop-a l = l.out.items ≡ map (λ a. l.k *ℤ a) (take l.a-index l.row)
