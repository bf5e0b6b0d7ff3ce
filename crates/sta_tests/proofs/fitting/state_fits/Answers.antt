use Rattle.sta_core.specs.Fits.{RuleFits}
use Rattle.label_split.proofs.Truths.{all_taken}
use Rattle.sta_tests.proofs.Loops.{one_more}
use Rattle.sta_tests.proofs.fitting.state_fits.Goals as goal

pub loop-rule-preserved : goal.loop-rule-preserved
loop-rule-preserved g c = one_more (RuleFits c.args.ranks.now c.args.states) c.args.rules.now c.loop-rule.rule-index c.rule-item.result c.loop-rule-test.true c.rule-item.is (c.rule_fits.ensures c.if-not-rule_fits.false) c.loop-rule.invariant

pub returns : goal.returns
returns g c = λ _. all_taken (RuleFits c.args.ranks.now c.args.states) c.args.rules.now c.loop-rule.rule-index c.loop-rule-test.false c.loop-rule.invariant
