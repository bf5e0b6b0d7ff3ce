use Rattle.label_split.proofs.Literals.{AreFirst}
use Rattle.label_split.proofs.search.decide_known.Given as goal

abbrev pub invariant-loop-i : goal.invariant-loop-i
invariant-loop-i g l = AreFirst g.T.Theory.atom_holds l.i l.atoms l.known.signs.items l.literals.items
