use Rattle.std.proofs.Common.{take}
use Rattle.flat_label.specs.Sides.{AreSides}
use Rattle.flat_label.proofs.classes.sides_of.Given as goal

abbrev pub invariant-loop-literal : goal.invariant-loop-literal
invariant-loop-literal l = AreSides l.fields (take l.literal-index l.literals) l.sides.items
