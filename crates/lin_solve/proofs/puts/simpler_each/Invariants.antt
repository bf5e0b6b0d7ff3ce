use Rattle.std.proofs.Common.{◌≡◌, List}
use Rattle.std.proofs.Math.IntN.{ℤ}
use Rattle.model_chain.specs.Literals.{HoldsAll}
use Rattle.lin_solve.specs.Plain.{plain_literals}
use Rattle.lin_solve.proofs.puts.simpler_each.Given as goal

abbrev pub invariant-loop-literal : goal.invariant-loop-literal
invariant-loop-literal l = (vs : List ℤ) → HoldsAll (plain_literals l.literals) vs → HoldsAll (plain_literals l.out.items) vs
