use Rattle.std.proofs.Common.{◌<◌, All, subst}
use Rattle.model_tree.specs.Formula.{EveryAtom}
use Rattle.label_core.specs.Formula.{plain_formula}
use Rattle.label_split.proofs.Truths.{all_taken}
use Rattle.sta_tests.proofs.Loops.{one_more}
use Rattle.sta_tests.proofs.fitting.all_guards_fit.Goals as goal

pub loop-those-preserved : goal.loop-those-preserved
loop-those-preserved c =
    one_more (λ those. All (λ r. EveryAtom (λ a. a.field < c.args.fields) (plain_formula r.guard)) those.items) c.args.rules.now c.loop-those.those-index c.those-item.result c.loop-those-test.true c.those-item.is
    (subst (All (λ r. EveryAtom (λ a. a.field < c.args.fields) (plain_formula r.guard))) c.deref.ensures.value (c.guards_fit.ensures c.if-not-guards_fit.false)) c.loop-those.invariant

pub returns : goal.returns
returns c = λ _. all_taken (λ those. All (λ r. EveryAtom (λ a. a.field < c.args.fields) (plain_formula r.guard)) those.items) c.args.rules.now c.loop-those.those-index c.loop-those-test.false c.loop-those.invariant
