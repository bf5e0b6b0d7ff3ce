use Rattle.label_core.proofs.Formulas.{plain_and}
use Rattle.label_core.proofs.formula.conjunction.Goals as goal

pub returns : goal.returns
returns g c = plain_and c.args.formulas
