use Rattle.std.proofs.Common.{◌<◌, get_or, arith}
use Rattle.model_sta.proofs.Reached.{same_default}
use Rattle.sttr_single.proofs.Low.{all_more, all_done}
use Rattle.sttr_single.proofs.demands.is_low.Goals as goal

pub states-preserved : goal.states-preserved
states-preserved c =
    let low : get_or c.args.states.now c.states.state-index 0 < c.args.bound = omega (arith, c.if-state-bound.false) in
    all_more (λ x. x < c.args.bound) c.args.states.now c.states.state-index (get_or c.args.states.now c.states.state-index 0) c.states-test.true (same_default c.args.states.now c.states.state-index 0 (get_or c.args.states.now c.states.state-index 0) c.states-test.true) c.states.invariant low

pub returns-clause-low : goal.returns-clause-low
returns-clause-low c = λ yes. all_done (λ x. x < c.args.bound) c.args.states.now c.states.state-index c.states-test.false c.states.invariant
