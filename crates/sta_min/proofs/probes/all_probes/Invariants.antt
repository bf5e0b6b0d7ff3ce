use Rattle.std.proofs.Common.{[], map, length, get_or}
use Rattle.sta_classes.specs.Grow.{Grown}
use Rattle.sta_min.specs.Kinds.{nested}
use Rattle.sta_min.specs.Probes.{plain_probe, IsProbeOf}
use Rattle.sta_min.proofs.Probing.{UpTo}
use Rattle.sta_min.proofs.probes.all_probes.Given as goal

abbrev pub invariant-constructors : goal.invariant-constructors
invariant-constructors g l = Grown [] (map plain_probe l.probes.items) (UpTo (λ c. IsProbeOf c (get_or (map (λ v. length v.items) l.values) c 0) (get_or (nested l.kinds) c [])) l.constructor)
