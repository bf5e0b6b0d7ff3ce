use Rattle.std.proofs.Common.{map, sym, ◌∙◌}
use Rattle.sta_core.specs.Machine.{plain_rule}
use Rattle.sta_ops.specs.Rules.{moved}
use Rattle.sta_ops.proofs.Growing.{grown}
use Rattle.sta_ops.proofs.Moved.{right_end, copied}
use Rattle.sta_ops.proofs.copies.either.Goals as goal

pub loop-rule-init : goal.loop-rule-init
loop-rule-init g c = c.in_ok-rules.ensures ∙ copied c.args.first.now ∙ sym (right_end (map plain_rule c.args.first.now))

pub loop-rule-preserved : goal.loop-rule-preserved
loop-rule-preserved g c =
    grown (λ r. moved c.args.by (plain_rule r)) c.args.second.now c.loop-rule.rule-index c.rule-item.result c.loop-rule-test.true c.rule-item.is plain_rule (map plain_rule c.args.first.now) c.loop-rule.rules.items c.push.new.self.items c.in_ok-move_rule.field-0 c.in_ok-push.ensures.items c.in_ok-move_rule.ensures c.loop-rule.invariant
