use Rattle.std.proofs.Math.IntN.{ℤ, pos}
use Rattle.std.specs.Prelude.{◌<ℤ◌, ◌≤ℤ◌, unsigned_abs}
use Rattle.lin_reduce.specs.Parts.{AnySolvable, IsPartSolvable}
use Rattle.lin_reduce.proofs.Splitting.{rest_of}
use Rattle.lin_reduce.proofs.nodes.Node.push_parts.Given as goal

abbrev pub invariant-loop-rest : goal.invariant-loop-rest
invariant-loop-rest l = record {
  low : pos 0 ≤ℤ l.rest;
  high : l.rest ≤ℤ l.split.times;
  parts : (r : ℤ) → l.rest ≤ℤ r → r <ℤ l.split.times → IsPartSolvable l.count (rest_of l.split.of l.split.times r) l.self.system.items → AnySolvable l.count l.pending.items;
  kept : AnySolvable l.count l.initial.pending.items → AnySolvable l.count l.pending.items;
}

abbrev pub decreases-loop-rest : goal.decreases-loop-rest
decreases-loop-rest l = unsigned_abs l.rest
