use Rattle.std.proofs.Common.{◌+◌, ◌*◌}
use Rattle.label_core.specs.Formula.{plain_formula}
use Rattle.label_core.proofs.Formulas.{weight, parts_weight}
use Rattle.label_split.specs.Known.{known_at}
use Rattle.label_split.proofs.Settled.{SayAll}
use Rattle.label_split.proofs.known.+settled.Given as goal

abbrev pub invariant-settled_each-loop-part : goal.invariant-settled_each-loop-part
invariant-settled_each-loop-part l = SayAll (known_at l.known.signs.items) l.every l.open l.parts l.part-index

abbrev pub decreases-settled : goal.decreases-settled
decreases-settled l = 2 * weight (plain_formula l.formula.now)

abbrev pub decreases-settled_each : goal.decreases-settled_each
decreases-settled_each l = 2 * parts_weight l.parts.now + 1
