use Rattle.std.proofs.Common.{◌<◌, All, take}
use Rattle.model_tree.specs.Formula.{EveryAtom}
use Rattle.label_core.specs.Formula.{plain_formula}
use Rattle.sta_tests.proofs.fitting.all_guards_fit.Given as goal

abbrev pub invariant-loop-those : goal.invariant-loop-those
invariant-loop-those l = All (λ those. All (λ r. EveryAtom (λ a. a.field < l.fields) (plain_formula r.guard)) those.items) (take l.those-index l.rules)
