use Rattle.std.proofs.Common.{◌≡◌, take}
use Rattle.label_core.specs.Pair.{left_lits, right_lits}
use Rattle.label_core.proofs.pair.parted.Given as goal

abbrev pub invariant-loop-literal : goal.invariant-loop-literal
invariant-loop-literal g l = (l.lefts.items ≡ left_lits (take l.literal-index l.literals)) × (l.rights.items ≡ right_lits (take l.literal-index l.literals))
