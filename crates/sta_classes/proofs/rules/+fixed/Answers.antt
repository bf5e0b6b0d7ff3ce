use Rattle.sta_classes.proofs.Fixed.{fixed_and, fixed_or}
use Rattle.std.proofs.lemmas.List.Folds.{list_all_at}
use Rattle.std.proofs.Common.{sym, ◌∙◌, ap}
use Rattle.std.specs.List.{list_all}
use Rattle.std.proofs.lemmas.List.{at_drop_all}
use Rattle.label_core.specs.Formula.{plain_formula}
use Rattle.label_core.proofs.Elements.{all_next}
use Rattle.sta_classes.specs.Applying.{is_fixed}
use Rattle.sta_classes.proofs.rules.+fixed.Goals as goal

pub are_fixed-loop-formula-preserved : goal.are_fixed-loop-formula-preserved
are_fixed-loop-formula-preserved g t c =
    sym (all_next (λ f. is_fixed (plain_formula f)) c.args.formulas.now c.loop-formula.formula-index c.formula-item.result c.loop-formula-test.true c.formula-item.is (sym c.is_fixed.ensures ∙ c.if-not-is_fixed.false)) ∙ c.loop-formula.invariant

pub are_fixed-returns : goal.are_fixed-returns
are_fixed-returns g t c = sym (at_drop_all (list_all (λ f. is_fixed (plain_formula f))) c.args.formulas.now c.loop-formula.formula-index c.loop-formula-test.false) ∙ c.loop-formula.invariant

pub are_fixed-returns-then-not-is_fixed : goal.are_fixed-returns-then-not-is_fixed
are_fixed-returns-then-not-is_fixed g t c = sym (list_all_at (λ f. is_fixed (plain_formula f)) c.args.formulas.now c.loop-formula.formula-index c.formula-item.result c.loop-formula-test.true (ap (λ f. is_fixed (plain_formula f)) (sym c.formula-item.is) ∙ sym c.is_fixed.ensures ∙ c.if-not-is_fixed.true))

pub is_fixed-returns-in-And : goal.is_fixed-returns-in-And
is_fixed-returns-in-And g t c = c.are_fixed.ensures ∙ ap (list_all (λ f. is_fixed (plain_formula f))) c.deref-in-And.ensures.value ∙ sym (fixed_and c.in-And.parts) ∙ ap (λ f. is_fixed (plain_formula f)) (sym c.in-And.is)

pub is_fixed-returns-in-Or : goal.is_fixed-returns-in-Or
is_fixed-returns-in-Or g t c = c.are_fixed-in-Or.ensures ∙ ap (list_all (λ f. is_fixed (plain_formula f))) c.deref-in-Or.ensures.value ∙ sym (fixed_or c.in-Or.parts) ∙ ap (λ f. is_fixed (plain_formula f)) (sym c.in-Or.is)
