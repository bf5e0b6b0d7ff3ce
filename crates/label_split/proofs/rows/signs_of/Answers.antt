use Rattle.std.proofs.Common.{ap, take_all}
use Rattle.label_split.specs.Signs.{signs_at}
use Rattle.std.proofs.Common.{◌∙◌, ◌++◌, ◌∷◌, [], ap₂, sym}
use Rattle.label_split.specs.Numbers.{number_holds}
use Rattle.label_split.proofs.Signs.{signs_of_more}
use Rattle.std.proofs.lemmas.Result.{IfOk-from_err}
use Rattle.std.proofs.Common.{arith}
use Rattle.label_split.proofs.rows.signs_of.Goals as goal

pub loop-formula-preserved : goal.loop-formula-preserved
loop-formula-preserved g c = c.in_ok-push.ensures.items ∙ ap₂ (λ xs x. xs ++ x ∷ []) c.loop-formula.invariant c.holds_of.ensures ∙ sym (signs_of_more (number_holds g.T.Theory.atom_holds c.args.atoms.now) c.args.formulas.now c.loop-formula.formula-index c.formula-item.result (g.T.Theory.label_of c.args.value.now) c.loop-formula-test.true c.formula-item.is)

pub loop-formula-init : goal.loop-formula-init
loop-formula-init g c = c.new-signs.ensures.items

pub holds_of-requires-clause-fit : goal.holds_of-requires-clause-fit
holds_of-requires-clause-fit g c = c.requires.fit

pub holds_of-requires-clause-kept : goal.holds_of-requires-clause-kept
holds_of-requires-clause-kept g c = c.requires.kept

pub returns : goal.returns
returns g c = c.loop-formula.invariant ∙ ap (λ fs. signs_at (number_holds g.T.Theory.atom_holds c.args.atoms.now) fs (g.T.Theory.label_of c.args.value.now)) (take_all c.loop-formula.formula-index c.args.formulas.now c.loop-formula-test.false)

pub returns-in_err-push : goal.returns-in_err-push
returns-in_err-push g c = IfOk-from_err c.from_residual.result _ c.from_residual.ensures.0

pub offset_bounds-formulas-formula-index : goal.offset_bounds-formulas-formula-index
offset_bounds-formulas-formula-index g c = omega arith
