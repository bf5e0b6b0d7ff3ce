use Rattle.std.proofs.Common.{◌≡◌, take}
use Rattle.flat_label.specs.Sides.{replaced}
use Rattle.flat_label.proofs.classes.with_replaced.Given as goal

abbrev pub invariant-loop-side : goal.invariant-loop-side
invariant-loop-side l = l.new.items ≡ replaced l.from l.to (take l.side-index l.sides)
