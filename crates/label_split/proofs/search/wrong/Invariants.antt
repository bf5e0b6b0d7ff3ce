use Rattle.std.proofs.Common.{drop}
use Rattle.label_split.specs.Numbers.{truths_at, HaveSigns}
use Rattle.label_split.proofs.search.wrong.Given as goal

abbrev pub invariant-loop-i : goal.invariant-loop-i
invariant-loop-i g l = HaveSigns (drop l.i l.asked.formulas.now) (drop l.i l.asked.signs.now) (truths_at g.T.Theory.atom_holds l.atoms (g.T.Theory.label_of l.value))
