use Rattle.std.proofs.Common.{◌+◌, ◌*◌, take}
use Rattle.label_core.specs.Formula.{plain_formula}
use Rattle.label_core.proofs.Formulas.{weight, parts_weight}
use Rattle.label_split.specs.Numbers.{EachNumbered}
use Rattle.label_split.proofs.numbers.+numbers.Given as goal

abbrev pub invariant-number_each-loop-formula : goal.invariant-number_each-loop-formula
invariant-number_each-loop-formula g l = EachNumbered g.A.PartialEq.eq l.initial.atoms.keys l.atoms.keys (take l.formula-index l.formulas) l.made.items

abbrev pub decreases-number_atoms : goal.decreases-number_atoms
decreases-number_atoms g l = 2 * weight (plain_formula l.formula.now)

abbrev pub decreases-number_each : goal.decreases-number_each
decreases-number_each g l = 2 * parts_weight l.formulas.now + 1
