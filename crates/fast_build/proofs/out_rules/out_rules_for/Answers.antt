use Rattle.fast_tree.specs.Signatures.{plain_signature}
use Rattle.fast_syntax.specs.Plain.{plain_out_rule}
use Rattle.model_sta.proofs.Pairs.{pairwise_more}
use Rattle.sta_core.proofs.Meaning.{All_from_map}
use Rattle.sttr_core.specs.Machine.{plain_out as machine_out}
use Rattle.fast_build.specs.Numbers.{number_in}
use Rattle.fast_build.specs.OutRules.{IsOutRuleFor, OutRuleStands}
use Rattle.fast_build.proofs.Elements.{all_here}
use Rattle.fast_build.proofs.out_rules.out_rules_for.Goals as goal

pub out_rule_for-requires-clause-stands : goal.out_rule_for-requires-clause-stands
out_rule_for-requires-clause-stands c =
    let Stands = OutRuleStands (plain_signature c.args.from.now) (plain_signature c.args.into.now) c.args.looks.now.keys c.args.names.now.keys in
    all_here (λ r. Stands (plain_out_rule r)) c.args.rules.now c.rules.rule-index c.rule-item.result (All_from_map Stands plain_out_rule c.args.rules.now c.requires.stand) c.rule-item.is c.rules-test.true

pub rules-preserved : goal.rules-preserved
rules-preserved c =
    pairwise_more (IsOutRuleFor (plain_signature c.args.from.now) (plain_signature c.args.into.now) (number_in c.args.looks.now.keys) (number_in c.args.names.now.keys)) machine_out plain_out_rule c.rules.made.items c.push.new.self.items c.in_ok-out_rule_for.field-0
    c.args.rules.now c.rules.rule-index c.rule-item.result c.rules-test.true c.rule-item.is c.in_ok-push.ensures.items c.in_ok-out_rule_for.ensures c.rules.invariant
