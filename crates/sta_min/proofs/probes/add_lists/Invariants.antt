use Rattle.std.proofs.Common.{map}
use Rattle.sta_classes.specs.Grow.{Grown}
use Rattle.sta_classes.proofs.Grown.{Before}
use Rattle.sta_min.specs.Probes.{plain_probe, IsProbeWith}
use Rattle.sta_min.proofs.probes.add_lists.Given as goal

abbrev pub invariant-lists : goal.invariant-lists
invariant-lists l = Grown (map plain_probe l.initial.probes.items) (map plain_probe l.probes.items) (Before (λ v. IsProbeWith l.constructor l.place l.values v.items) l.lists l.list-index)
