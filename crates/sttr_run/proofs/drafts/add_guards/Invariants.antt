use Rattle.std.proofs.Common.{◌≡◌, ◌++◌, map, take}
use Rattle.label_core.specs.Formula.{plain_formula}
use Rattle.sttr_run.proofs.drafts.add_guards.Given as goal

abbrev pub invariant-guards : goal.invariant-guards
invariant-guards g l = map plain_formula l.to.items ≡ map plain_formula l.fn.to.items ++ map plain_formula (take l.guard-index l.guards)
