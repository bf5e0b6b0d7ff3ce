use Rattle.std.proofs.Common.{map, get_or, []}
use Rattle.sta_core.specs.Machine.{plain_rule}
use Rattle.sta_classes.specs.Rules.{plain_rules}
use Rattle.sta_min.proofs.Building.{joined_more, state_rules}
use Rattle.sta_min.proofs.joined.joined.Goals as goal

pub states-preserved : goal.states-preserved
states-preserved g c =
    joined_more (λ i. get_or (plain_rules c.args.rules.now) i []) c.args.states.now c.states.state-index c.states-test.true (map plain_rule c.states.joined.items) (map plain_rule c.add_rules.new.joined.items) (map plain_rule c.deref.result.now) c.states.invariant
    (state_rules c.args.rules.now (get_or c.args.states.now c.states.state-index 0) c.index-rules-state.result c.deref.result.now (c.requires c.states.state-index 0 c.states-test.true) c.index-rules-state.is c.deref.ensures.value) c.in_ok-add_rules.ensures
