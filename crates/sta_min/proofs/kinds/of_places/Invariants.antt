use Rattle.sta_classes.specs.Rows.{lists_of}
use Rattle.sta_min.specs.Kinds.{AreOfPlaces}
use Rattle.sta_min.proofs.kinds.of_places.Given as goal

abbrev pub invariant-places : goal.invariant-places
invariant-places g l = AreOfPlaces l.table l.constructor l.place (lists_of l.places.items)
