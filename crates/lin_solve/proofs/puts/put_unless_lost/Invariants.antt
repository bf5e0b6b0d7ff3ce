use Rattle.lin_solve.specs.Branches.{ArePut}
use Rattle.lin_solve.proofs.puts.put_unless_lost.Given as goal

abbrev pub invariant-loop-literal : goal.invariant-loop-literal
invariant-loop-literal l = ArePut l.literals l.forms l.out.items
