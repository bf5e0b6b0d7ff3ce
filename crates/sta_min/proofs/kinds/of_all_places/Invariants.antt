use Rattle.sta_min.specs.Kinds.{AreOfAllPlaces}
use Rattle.sta_min.proofs.kinds.of_all_places.Given as goal

abbrev pub invariant-constructors : goal.invariant-constructors
invariant-constructors g l = AreOfAllPlaces l.table l.ranks l.constructor l.kinds.items
