use Rattle.std.proofs.Common.{◌<◌, All}
use Rattle.sttr_single.proofs.Low.{all_done, high_at}
use Rattle.sttr_single.proofs.demands.are_low.Goals as goal

pub returns-then-not-is_low-clause-high : goal.returns-then-not-is_low-clause-high
returns-then-not-is_low-clause-high c = λ no. (
  c.demands.states-index,
  c.demands-test.true,
  high_at c.args.bound c.args.demands.now c.demands.states-index c.states-item.result c.deref.result.now c.demands-test.true c.states-item.is c.deref.ensures.value (c.is_low.ensures.high c.if-not-is_low.true),
)

pub returns-clause-low : goal.returns-clause-low
returns-clause-low c = λ yes. all_done (λ d. All (λ x. x < c.args.bound) d.items) c.args.demands.now c.demands.states-index c.demands-test.false c.demands.invariant
