use Rattle.std.proofs.Common.{All, take}
use Rattle.flat_label.specs.Sides.{AreAmong}
use Rattle.flat_label.proofs.texts.constants_of.Given as goal

abbrev pub invariant-loop-literal : goal.invariant-loop-literal
invariant-loop-literal l = All (λ x. AreAmong l.constants.keys x.atom) (take l.literal-index l.literals)
