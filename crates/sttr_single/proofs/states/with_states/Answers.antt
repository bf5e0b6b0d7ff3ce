use Rattle.std.proofs.Common.{◌∙◌}
use Rattle.sttr_single.proofs.More.{more_fit}
use Rattle.sttr_single.proofs.states.with_states.Goals as goal

pub new-requires : goal.new-requires
new-requires g c =
    more_fit c.args.looks.now c.in_ok-ranks.ranks.items c.rules.result.now c.in_ok-rules.rules.items c.args.more.items c.append.new.self.items (c.in_ok-ranks.ensures.items ∙ c.ranks.ensures) c.rules.ensures.rules c.rules.ensures.fit c.in_ok-rules.ensures c.requires c.in_ok-append.ensures.items
