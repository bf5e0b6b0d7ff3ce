use Rattle.std.proofs.Common.{List}
use Rattle.std.proofs.Math.IntN.{ℤ}
use Rattle.model_form.specs.Meaning.{values_of}
use Rattle.model_chain.specs.Literals.{HoldsAll}
use Rattle.lin_solve.specs.Plain.{plain_literals}
use Rattle.lin_solve.specs.Said.{AreSo}
use Rattle.lin_solve.proofs.gaps.facts_of.Given as goal

abbrev pub invariant-loop-literal : goal.invariant-loop-literal
invariant-loop-literal l = (us : List ℤ) → HoldsAll (plain_literals l.literals) us → AreSo l.facts.facts.items (values_of l.facts.forms.items us)
