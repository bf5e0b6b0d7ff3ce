use Rattle.std.proofs.Common.{map}
use Rattle.sta_classes.specs.Grow.{Grown}
use Rattle.sta_classes.specs.Rows.{lists_of}
use Rattle.sta_min.specs.Probes.{plain_probe, IsProbeAt}
use Rattle.sta_min.proofs.Probing.{UpTo}
use Rattle.sta_min.proofs.probes.add_places.Given as goal

abbrev pub invariant-places : goal.invariant-places
invariant-places l = Grown (map plain_probe l.initial.probes.items) (map plain_probe l.probes.items) (UpTo (IsProbeAt l.constructor l.values (lists_of l.kinds)) l.place)
