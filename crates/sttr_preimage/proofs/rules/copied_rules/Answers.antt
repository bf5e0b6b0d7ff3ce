use Rattle.std.proofs.Common.{map, take}
use Rattle.sta_core.specs.Machine.{plain_rule}
use Rattle.sttr_preimage.specs.Names.{names_in}
use Rattle.sttr_preimage.proofs.Copying.{copied_more, take_mapped, push_mapped}
use Rattle.sttr_preimage.proofs.rules.copied_rules.Goals as goal

pub rules-preserved : goal.rules-preserved
rules-preserved g c =
    copied_more c.args.side (names_in c.args.names.now.keys) (names_in c.rules.names.keys) (names_in c.copied_rule.new.names.keys) (map plain_rule (take c.rules.rule-index c.args.rules.now)) (map plain_rule c.rules.made.items) (map plain_rule c.push.new.self.items) _
    (plain_rule c.rule-item.result) (plain_rule c.in_ok-copied_rule.field-0) c.rules.invariant c.in_ok-copied_rule.ensures
    (take_mapped plain_rule c.args.rules.now c.rules.rule-index c.rule-item.result c.rules-test.true c.rule-item.is)
    (push_mapped plain_rule c.rules.made.items c.push.new.self.items c.in_ok-copied_rule.field-0 c.in_ok-push.ensures.items)
