use Rattle.std.proofs.Common.{◌<◌}
use Rattle.model_tree.specs.Formula.{EveryAtom}
use Rattle.label_core.specs.Formula.{plain_formula}
use Rattle.label_split.proofs.Truths.{all_taken}
use Rattle.sta_tests.proofs.Loops.{one_more}
use Rattle.sta_tests.proofs.fitting.guards_fit.Goals as goal

pub loop-rule-preserved : goal.loop-rule-preserved
loop-rule-preserved c = one_more (λ r. EveryAtom (λ a. a.field < c.args.fields) (plain_formula r.guard)) c.args.rules.now c.loop-rule.rule-index c.rule-item.result c.loop-rule-test.true c.rule-item.is (c.guard_fits.ensures c.if-not-guard_fits.false) c.loop-rule.invariant

pub returns : goal.returns
returns c = λ _. all_taken (λ r. EveryAtom (λ a. a.field < c.args.fields) (plain_formula r.guard)) c.args.rules.now c.loop-rule.rule-index c.loop-rule-test.false c.loop-rule.invariant
