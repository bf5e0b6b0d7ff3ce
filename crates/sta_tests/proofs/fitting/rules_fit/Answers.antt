use Rattle.std.proofs.Common.{All, length, subst}
use Rattle.sta_core.specs.Fits.{RuleFits}
use Rattle.label_split.proofs.Truths.{all_taken}
use Rattle.sta_tests.proofs.Loops.{one_more}
use Rattle.sta_tests.proofs.fitting.rules_fit.Goals as goal

pub loop-those-preserved : goal.loop-those-preserved
loop-those-preserved g c =
    one_more (λ those. All (RuleFits c.args.ranks.now (length c.args.rules.now)) those.items) c.args.rules.now c.loop-those.those-index c.those-item.result c.loop-those-test.true c.those-item.is
    (subst (All (RuleFits c.args.ranks.now (length c.args.rules.now))) c.deref.ensures.value (c.state_fits.ensures c.if-not-state_fits.false)) c.loop-those.invariant

pub returns : goal.returns
returns g c = λ _. all_taken (λ those. All (RuleFits c.args.ranks.now (length c.args.rules.now)) those.items) c.args.rules.now c.loop-those.those-index c.loop-those-test.false c.loop-those.invariant
