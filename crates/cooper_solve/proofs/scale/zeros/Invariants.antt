use Rattle.std.proofs.Common.{◌≡◌, replicate}
use Rattle.std.specs.Prelude.{pos}
use Rattle.cooper_solve.proofs.scale.zeros.Given as goal

abbrev pub invariant-write : goal.invariant-write
invariant-write l = l.out.items ≡ replicate l.counter (pos 0)
