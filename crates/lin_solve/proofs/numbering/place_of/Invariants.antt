use Rattle.std.proofs.Common.{◌≡◌, ◌+◌, drop}
use Rattle.model_chain.specs.Literals.{place}
use Rattle.lin_solve.specs.Plain.{plain_term, plain_known}
use Rattle.lin_solve.proofs.numbering.place_of.Given as goal

abbrev pub invariant-loop-i : goal.invariant-loop-i
invariant-loop-i l = l.i + place (plain_term l.term) (plain_known (drop l.i l.known)) ≡ place (plain_term l.term) (plain_known l.known)
