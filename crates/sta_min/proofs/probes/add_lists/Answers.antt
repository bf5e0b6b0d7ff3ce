use Rattle.std.proofs.Common.{map, refl, subst, arith}
use Rattle.sta_classes.specs.Grow.{Grown}
use Rattle.sta_classes.proofs.Grown.{grown_first, grown_more, grown_all}
use Rattle.sta_min.specs.Probes.{plain_probe, IsProbeWith}
use Rattle.sta_min.proofs.probes.add_lists.Goals as goal

pub lists-init : goal.lists-init
lists-init c = grown_first (λ v. IsProbeWith c.args.constructor c.args.place c.args.values v.items) c.args.lists.now (map plain_probe c.args.probes.now.items) (map plain_probe c.args.probes.now.items) refl

pub lists-preserved : goal.lists-preserved
lists-preserved c =
    grown_more (λ v. IsProbeWith c.args.constructor c.args.place c.args.values v.items) c.args.lists.now (map plain_probe c.args.probes.now.items) (map plain_probe c.lists.probes.items) (map plain_probe c.add_values.new.probes.items) c.lists.list-index c.list-item.result c.lists-test.true c.list-item.is c.lists.invariant
    (subst (λ l. Grown (map plain_probe c.lists.probes.items) (map plain_probe c.add_values.new.probes.items) (IsProbeWith c.args.constructor c.args.place c.args.values l)) c.deref.ensures.value c.in_ok-add_values.ensures)

pub returns : goal.returns
returns c = grown_all (λ v. IsProbeWith c.args.constructor c.args.place c.args.values v.items) c.args.lists.now (map plain_probe c.args.probes.now.items) (map plain_probe c.lists.probes.items) c.lists.list-index (omega (arith, c.lists-test.false)) c.lists.invariant
