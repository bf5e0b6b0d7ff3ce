use Rattle.std.proofs.Common.{◌<◌, All, take}
use Rattle.model_tree.specs.Formula.{EveryAtom}
use Rattle.label_core.specs.Formula.{plain_formula}
use Rattle.sta_tests.proofs.fitting.guards_fit.Given as goal

abbrev pub invariant-loop-rule : goal.invariant-loop-rule
invariant-loop-rule l = All (λ r. EveryAtom (λ a. a.field < l.fields) (plain_formula r.guard)) (take l.rule-index l.rules)
