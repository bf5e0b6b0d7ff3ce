use Rattle.std.proofs.Common.{◌≡◌, drop}
use Rattle.std.specs.List.{list_all}
use Rattle.label_core.specs.Formula.{plain_formula}
use Rattle.sta_classes.specs.Applying.{is_fixed}
use Rattle.sta_classes.proofs.rules.+fixed.Given as goal

abbrev pub invariant-are_fixed-loop-formula : goal.invariant-are_fixed-loop-formula
invariant-are_fixed-loop-formula g l = list_all (λ f. is_fixed (plain_formula f)) (drop l.formula-index l.formulas) ≡ list_all (λ f. is_fixed (plain_formula f)) l.formulas
