use Rattle.sta_classes.specs.Splits.{IsMetBy}
use Rattle.sta_classes.proofs.splits.Splits.add.Given as goal

abbrev pub invariant-places : goal.invariant-places
invariant-places g l = IsMetBy l.list l.place l.row l.made.items
