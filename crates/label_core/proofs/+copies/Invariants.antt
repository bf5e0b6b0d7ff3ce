use Rattle.std.proofs.Common.{◌≡◌, ◌+◌, ◌*◌, take, map}
use Rattle.label_core.specs.Formula.{plain_formula}
use Rattle.label_core.proofs.+copies.Given as goal

abbrev pub invariant-copies::copy_each-loop-part : goal.invariant-copies::copy_each-loop-part
invariant-copies::copy_each-loop-part g l = map plain_formula l.copies.items ≡ map plain_formula (take l.part-index l.parts)

abbrev pub decreases-formula::Formula::copy_within : goal.decreases-formula::Formula::copy_within
decreases-formula::Formula::copy_within g l = 2 * l.most

abbrev pub decreases-copies::copy_each : goal.decreases-copies::copy_each
decreases-copies::copy_each g l = 2 * l.most + 1
