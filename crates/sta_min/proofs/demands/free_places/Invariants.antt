use Rattle.sta_min.specs.Demands.{AreFreePlaces}
use Rattle.sta_min.proofs.demands.free_places.Given as goal

abbrev pub invariant-places : goal.invariant-places
invariant-places g l = AreFreePlaces l.table l.constructor l.place l.free.items
