use Rattle.std.proofs.Common.{◌≡◌, List}
use Rattle.std.proofs.Math.IntN.{ℤ}
use Rattle.model_form.specs.Meaning.{values_of}
use Rattle.model_chain.specs.Literals.{HoldsAll}
use Rattle.lin_solve.specs.Plain.{plain_literals}
use Rattle.lin_solve.proofs.equations.put_others.Given as goal

abbrev pub invariant-loop-i : goal.invariant-loop-i
invariant-loop-i l = (vs : List ℤ) → values_of l.forms vs ≡ vs → HoldsAll (plain_literals l.literals) vs → HoldsAll (plain_literals l.out.items) vs
