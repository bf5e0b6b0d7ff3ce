use Rattle.std.proofs.Common.{map, refl, sym, ap, subst, arith}
use Rattle.std.proofs.lemmas.List.{take_all}
use Rattle.sta_core.specs.Machine.{plain_rule}
use Rattle.sta_theory.proofs.Lists.{in_map}
use Rattle.sta_ops.specs.Trimmed.{renamed, AreNamedRules, DemandedBy, DemandedByAny}
use Rattle.sta_ops.proofs.Trimming.{meets_none, meets_then, named_none, named_next, rule_stays}
use Rattle.sta_ops.proofs.trim.name_rules.Goals as goal

pub rules-init : goal.rules-init
rules-init g c = record { meets = meets_none c.args.met.now.keys c.args.met.now.keys (DemandedByAny (map plain_rule c.args.rules.now)) refl; named = named_none renamed (λ r k. DemandedBy r.demands k) rule_stays c.args.met.now.keys (map plain_rule c.new-named.result.items) (ap (map plain_rule) c.new-named.ensures.items) }

pub rules-preserved : goal.rules-preserved
rules-preserved g c =
    let old = c.rules.met.keys in
    let new = c.name_rule.new.met.keys in
    let wanted = DemandedByAny (map plain_rule c.args.rules.now) in
    let (meets, names) = c.in_ok-name_rule.ensures in
    record {
      meets = meets_then c.args.met.now.keys old new wanted (DemandedBy (plain_rule c.rule-item.result).demands) wanted c.rules.invariant.meets meets (λ t h. h)
          (λ t at. (plain_rule c.rule-item.result, in_map plain_rule c.args.rules.now c.rule-item.result (c.rules.rule-index, c.rules-test.true, sym c.rule-item.is), at));
      named = named_next renamed (λ r k. DemandedBy r.demands k) rule_stays plain_rule plain_rule c.args.rules.now c.rules.rule-index c.rule-item.result c.rules-test.true c.rule-item.is old new (DemandedBy (plain_rule c.rule-item.result).demands) c.rules.named.items c.push.new.self.items c.in_ok-name_rule.field-0 c.in_ok-push.ensures.items
          meets names.is names.low c.rules.invariant.named;
    }

pub returns : goal.returns
returns g c = (
  c.rules.invariant.meets,
  subst (λ rs. AreNamedRules c.rules.met.keys (map plain_rule rs) (map plain_rule c.rules.named.items)) (take_all c.rules.rule-index c.args.rules.now (omega (arith, c.rules-test.false))) c.rules.invariant.named,
)
