use Rattle.lin_solve.proofs.Cased.{all_in}
use Rattle.lin_solve.proofs.cases.Case.all.Goals as goal

pub returns : goal.returns
returns c = λ us eight. all_in us eight
