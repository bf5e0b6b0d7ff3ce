use Rattle.std.proofs.Common.{map}
use Rattle.sta_classes.specs.Grow.{Grown}
use Rattle.sta_min.specs.Probes.{plain_probe, IsProbeWith}
use Rattle.sta_min.proofs.probes.add_values.Given as goal

abbrev pub invariant-values : goal.invariant-values
invariant-values l = Grown (map plain_probe l.initial.probes.items) (map plain_probe l.probes.items) (IsProbeWith l.constructor l.place l.value l.children)
