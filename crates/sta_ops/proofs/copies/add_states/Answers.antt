use Rattle.std.proofs.Common.{ap, map, ◌∙◌}
use Rattle.sta_core.specs.Machine.{plain_rule}
use Rattle.sta_classes.specs.Rules.{plain_rules}
use Rattle.sta_ops.specs.Rules.{moved}
use Rattle.sta_ops.proofs.Growing.{grown}
use Rattle.sta_ops.proofs.copies.add_states.Goals as goal

pub loop-those-preserved : goal.loop-those-preserved
loop-those-preserved g c =
    grown (λ those. map (λ r. moved c.args.by (plain_rule r)) those.items) c.args.from.now c.loop-those.those-index c.those-item.result c.loop-those-test.true c.those-item.is (λ those. map plain_rule those.items) (plain_rules c.args.rules.now.items) c.loop-those.rules.items c.push.new.self.items c.in_ok-move_rules.field-0 c.in_ok-push.ensures.items
    (c.in_ok-move_rules.ensures ∙ ap (map (λ r. moved c.args.by (plain_rule r))) c.deref.ensures.value) c.loop-those.invariant
