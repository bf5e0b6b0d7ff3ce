use Rattle.std.proofs.Common.{◌≡◌, ◌+◌, ◌*◌, drop}
use Rattle.label_core.specs.Formula.{plain_formula}
use Rattle.label_core.proofs.Formulas.{weight, parts_weight}
use Rattle.label_core.proofs.SameParts.{same_lists}
use Rattle.label_core.proofs.+same.Given as goal

abbrev pub invariant-same::are_same-loop-i : goal.invariant-same::are_same-loop-i
invariant-same::are_same-loop-i g l = same_lists g.A.PartialEq.eq l.parts l.others ≡ same_lists g.A.PartialEq.eq (drop l.i l.parts) (drop l.i l.others)

abbrev pub decreases-formula::Formula::is_same : goal.decreases-formula::Formula::is_same
decreases-formula::Formula::is_same g l = 2 * weight (plain_formula l.self.now)

abbrev pub decreases-same::are_same : goal.decreases-same::are_same
decreases-same::are_same g l = 2 * parts_weight l.parts.now + 1
