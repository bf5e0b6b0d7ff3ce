use Rattle.std.proofs.Common.{arith}
use Rattle.sta_core.specs.Machine.{plain_rule}
use Rattle.sttr_single.proofs.Low.{joined_done}
use Rattle.sttr_single.proofs.demands.joined_for.Goals as goal

pub returns : goal.returns
returns g c =
    joined_done c.args.looks.now (plain_rule c.args.first.now) (plain_rule c.args.second.now) c.ranks-ranks.result.now c.states.result c.in_ok-made.made.items c.deref.result.now c.ranks-ranks.ensures (omega (arith, c.if-constructor-ranks.false)) c.states.ensures c.deref.ensures.value (c.are_low.ensures.low c.if-not-are_low.false)
    c.in_ok-made.ensures
