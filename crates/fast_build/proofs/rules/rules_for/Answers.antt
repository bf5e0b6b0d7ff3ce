use Rattle.fast_tree.specs.Signatures.{plain_signature}
use Rattle.fast_syntax.specs.Plain.{plain_rule}
use Rattle.sta_core.specs.Machine.{plain_rule as machine_rule}
use Rattle.sta_core.proofs.Meaning.{All_from_map}
use Rattle.model_sta.proofs.Pairs.{pairwise_more}
use Rattle.fast_build.specs.Numbers.{number_in, has_ctor}
use Rattle.fast_build.specs.Rules.{IsRuleFor}
use Rattle.fast_build.specs.Stands.{GuardStands}
use Rattle.fast_build.proofs.Elements.{all_mapped, all_here, mapped_at, mapped_below}
use Rattle.fast_build.proofs.Grown.{rule_demands_there}
use Rattle.fast_build.proofs.rules.rules_for.Goals as goal

pub rule_for-requires-clause-ctor : goal.rule_for-requires-clause-ctor
rule_for-requires-clause-ctor c = all_mapped (has_ctor (plain_signature c.args.signature.now)) plain_rule c.args.rules.now c.rules.rule-index c.rule-item.result c.requires.ctors c.rule-item.is c.rules-test.true

pub rule_for-requires-clause-guarded : goal.rule_for-requires-clause-guarded
rule_for-requires-clause-guarded c =
    all_here (λ r. GuardStands (plain_signature c.args.signature.now).fields (plain_rule r).guard) c.args.rules.now c.rules.rule-index c.rule-item.result
    (All_from_map (λ r. GuardStands (plain_signature c.args.signature.now).fields r.guard) plain_rule c.args.rules.now c.requires.guarded) c.rule-item.is c.rules-test.true

pub rule_for-requires-clause-named : goal.rule_for-requires-clause-named
rule_for-requires-clause-named c =
    rule_demands_there c.args.names.now.keys _ c.rules.rule-index (plain_rule c.rule-item.result) c.requires.named (mapped_below plain_rule c.args.rules.now c.rules.rule-index c.rules-test.true)
    (mapped_at plain_rule c.args.rules.now c.rules.rule-index c.rule-item.result (plain_rule c.rule-item.result) c.rule-item.is c.rules-test.true)

pub rules-preserved : goal.rules-preserved
rules-preserved c =
    pairwise_more (IsRuleFor (plain_signature c.args.signature.now) (number_in c.args.names.now.keys)) machine_rule plain_rule c.rules.made.items c.push.new.self.items c.in_ok-rule_for.field-0
    c.args.rules.now c.rules.rule-index c.rule-item.result c.rules-test.true c.rule-item.is c.in_ok-push.ensures.items c.in_ok-rule_for.ensures c.rules.invariant
