use Rattle.std.proofs.Common.{◌+◌, ◌*◌}
use Rattle.label_core.specs.Formula.{plain_formula}
use Rattle.label_core.proofs.Formulas.{SayAll, weight, parts_weight}
use Rattle.label_split.specs.Known.{truth_at}
use Rattle.label_split.specs.Numbers.{truths_at}
use Rattle.label_split.proofs.search.+holds.Given as goal

abbrev pub invariant-each_holds-loop-part : goal.invariant-each_holds-loop-part
invariant-each_holds-loop-part g l = SayAll (truth_at (truths_at g.T.Theory.atom_holds l.atoms (g.T.Theory.label_of l.value))) l.every l.parts l.part-index

abbrev pub decreases-holds_of : goal.decreases-holds_of
decreases-holds_of g l = 2 * weight (plain_formula l.formula.now)

abbrev pub decreases-each_holds : goal.decreases-each_holds
decreases-each_holds g l = 2 * parts_weight l.parts.now + 1
