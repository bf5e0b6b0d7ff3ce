use Rattle.std.proofs.Common.{◌≡◌, take}
use Rattle.sta_classes.proofs.formula.places.Given as goal

abbrev pub invariant-loop-number : goal.invariant-loop-number
invariant-loop-number l = l.made.items ≡ take l.number-index l.numbers
