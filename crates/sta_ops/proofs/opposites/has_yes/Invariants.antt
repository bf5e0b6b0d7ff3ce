use Rattle.std.proofs.Common.{◌≡◌, map, drop}
use Rattle.std.specs.List.{list_any}
use Rattle.label_core.specs.Formula.{plain_formula}
use Rattle.sta_ops.specs.Opposites.{is_yes}
use Rattle.sta_ops.proofs.opposites.has_yes.Given as goal

abbrev pub invariant-loop-formula : goal.invariant-loop-formula
invariant-loop-formula g l = list_any is_yes (map plain_formula (drop l.formula-index l.formulas)) ≡ list_any is_yes (map plain_formula l.formulas)
