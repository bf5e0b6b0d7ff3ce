use Rattle.sta_min.specs.Kinds.{AreOfAllKinds}
use Rattle.sta_min.proofs.kinds.of_all_kinds.Given as goal

abbrev pub invariant-classes : goal.invariant-classes
invariant-classes g l = AreOfAllKinds l.table l.constructor l.place l.class l.classes.items
