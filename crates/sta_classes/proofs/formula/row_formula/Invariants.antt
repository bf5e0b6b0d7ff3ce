use Rattle.std.proofs.Common.{◌≡◌, map, take}
use Rattle.label_core.specs.Formula.{plain_formula}
use Rattle.sta_classes.specs.Rules.{plain_rules}
use Rattle.sta_classes.specs.RowFormula.{state_formulas}
use Rattle.sta_classes.specs.Rows.{class_rows_at}
use Rattle.sta_classes.proofs.formula.row_formula.Given as goal

abbrev pub invariant-loop-i : goal.invariant-loop-i
invariant-loop-i g l = map plain_formula l.parts.items ≡ state_formulas l.constructor (class_rows_at l.found l.children) (plain_rules (take l.i l.rules)) (take l.i l.row)
