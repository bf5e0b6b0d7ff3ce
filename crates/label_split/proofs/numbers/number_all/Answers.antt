use Rattle.std.proofs.lemmas.Result.{IfOk-from_err}
use Rattle.label_split.proofs.Numbered.{first_numbered}
use Rattle.label_split.proofs.numbers.number_all.Goals as goal

pub returns-clause-atoms : goal.returns-clause-atoms
returns-clause-atoms g c = (first_numbered g.A.PartialEq.eq c.new-atoms.result.keys _ c.args.formulas.now c.in_ok-formulas.formulas.items c.new-atoms.ensures.empty c.in_ok-formulas.ensures).0

pub returns-clause-formulas : goal.returns-clause-formulas
returns-clause-formulas g c = (first_numbered g.A.PartialEq.eq c.new-atoms.result.keys _ c.args.formulas.now c.in_ok-formulas.formulas.items c.new-atoms.ensures.empty c.in_ok-formulas.ensures).1

pub returns-in_err-formulas : goal.returns-in_err-formulas
returns-in_err-formulas g c = record {
  atoms = IfOk-from_err c.from_residual.result _ c.from_residual.ensures.0;
  formulas = IfOk-from_err c.from_residual.result _ c.from_residual.ensures.0;
}
