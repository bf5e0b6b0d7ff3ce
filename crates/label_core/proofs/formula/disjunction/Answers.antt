use Rattle.label_core.proofs.Formulas.{plain_or}
use Rattle.label_core.proofs.formula.disjunction.Goals as goal

pub returns : goal.returns
returns g c = plain_or c.args.formulas
