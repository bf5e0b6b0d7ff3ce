use Rattle.std.proofs.Common.{◌≡◌}
use Rattle.model_sta.specs.Sets.{has}
use Rattle.sta_classes.proofs.Loops.{filled}
use Rattle.sta_classes.proofs.place.Place.add.Given as goal

abbrev pub invariant-loop-i : goal.invariant-loop-i
invariant-loop-i l = l.key ≡ filled (has l.row) l.i l.self.states.items
