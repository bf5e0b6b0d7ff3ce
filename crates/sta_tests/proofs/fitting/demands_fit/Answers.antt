use Rattle.std.proofs.Common.{◌<◌, All, subst}
use Rattle.label_split.proofs.Truths.{all_taken}
use Rattle.sta_tests.proofs.Loops.{one_more}
use Rattle.sta_tests.proofs.fitting.demands_fit.Goals as goal

pub loop-those-preserved : goal.loop-those-preserved
loop-those-preserved c =
    one_more (λ d. All (λ s. s < c.args.states) d.items) c.args.demands.now c.loop-those.those-index c.those-item.result c.loop-those-test.true c.those-item.is
    (subst (All (λ s. s < c.args.states)) c.deref.ensures.value (c.are_states.ensures c.if-not-are_states.false)) c.loop-those.invariant

pub returns : goal.returns
returns c = λ _. all_taken (λ d. All (λ s. s < c.args.states) d.items) c.args.demands.now c.loop-those.those-index c.loop-those-test.false c.loop-those.invariant
