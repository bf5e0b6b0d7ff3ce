use Rattle.std.proofs.Common.{◌≡◌, List}
use Rattle.std.proofs.Math.IntN.{ℤ}
use Rattle.model_chain.specs.Literals.{HoldsAll, count_sides}
use Rattle.lin_solve.specs.Plain.{plain_literals}
use Rattle.lin_solve.proofs.found.sideless.Given as goal

abbrev pub invariant-loop-literal : goal.invariant-loop-literal
invariant-loop-literal l = record {
  none : count_sides (plain_literals l.out.items) ≡ 0;
  hold : (us : List ℤ) → HoldsAll (plain_literals l.literals) us → HoldsAll (plain_literals l.out.items) us;
}
