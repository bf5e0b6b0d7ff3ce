use Rattle.std.proofs.Common.{◌+◌, ap, map, [], ◌∙◌}
use Rattle.sta_ops.proofs.Growing.{grown}
use Rattle.sta_ops.proofs.copies.move_demands.Goals as goal

pub loop-states-preserved : goal.loop-states-preserved
loop-states-preserved c =
    grown (λ d. map (λ s. c.args.by + s) d.items) c.args.demands.now c.loop-states.states-index c.states-item.result c.loop-states-test.true c.states-item.is (λ d. d.items) [] c.loop-states.copies.items c.push.new.self.items c.in_ok-move_states.field-0 c.in_ok-push.ensures.items
    (c.in_ok-move_states.ensures ∙ ap (map (λ s. c.args.by + s)) c.deref.ensures.value) c.loop-states.invariant
