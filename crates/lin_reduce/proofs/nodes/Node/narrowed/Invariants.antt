use Rattle.math_cooper.specs.System.{IsSolvable}
use Rattle.lin_reduce.proofs.nodes.Node.narrowed.Given as goal

abbrev pub invariant-loop : goal.invariant-loop
invariant-loop l = IsSolvable l.count l.self.system.items → IsSolvable l.count l.node.system.items
