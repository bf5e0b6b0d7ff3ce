use Rattle.std.proofs.Common.{◌≡◌, take}
use Rattle.label_split.specs.Numbers.{number_holds}
use Rattle.label_split.specs.Signs.{signs_at}
use Rattle.label_split.proofs.rows.signs_of.Given as goal

abbrev pub invariant-loop-formula : goal.invariant-loop-formula
invariant-loop-formula g l = l.signs.items ≡ signs_at (number_holds g.T.Theory.atom_holds l.atoms) (take l.formula-index l.formulas) (g.T.Theory.label_of l.value)
