use Rattle.std.proofs.Common.{◌≡◌, map, take}
use Rattle.label_core.specs.Formula.{plain_formula}
use Rattle.sta_classes.specs.Applying.{chosen, guards_in}
use Rattle.sta_classes.proofs.rules.guards_of.Given as goal

abbrev pub invariant-loop-i : goal.invariant-loop-i
invariant-loop-i g l = map plain_formula l.guards.items ≡ chosen (take l.i l.numbers) (guards_in (take l.i l.list))
