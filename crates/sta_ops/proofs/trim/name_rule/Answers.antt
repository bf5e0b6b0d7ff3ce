use Rattle.std.proofs.Common.{map, refl, subst}
use Rattle.sta_core.specs.Machine.{plain_rule}
use Rattle.sta_ops.specs.Trimmed.{Meets, AreNamesOfAll, DemandedBy}
use Rattle.sta_ops.proofs.Trimming.{rule_named}
use Rattle.sta_ops.proofs.trim.name_rule.Goals as goal

pub returns : goal.returns
returns g c =
    let (meets, names) = c.in_ok-demands.ensures in (
      subst (λ ds. Meets c.args.met.now.keys c.name_demands.new.met.keys (DemandedBy (map (λ d. d.items) ds))) c.deref.ensures.value meets,
      rule_named c.name_demands.new.met.keys (plain_rule c.args.rule.now) _ (subst (λ ds. AreNamesOfAll c.name_demands.new.met.keys (map (λ d. d.items) ds) (map (λ d. d.items) c.in_ok-demands.demands.items)) c.deref.ensures.value names) refl c.in_ok-guard.ensures,
    )
