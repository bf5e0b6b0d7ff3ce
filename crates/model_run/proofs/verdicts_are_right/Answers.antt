use Rattle.model_run.proofs.Laws.{are_verdicts_right}
use Rattle.model_run.proofs.verdicts_are_right.Goals as goal

pub returns : goal.returns
returns c = are_verdicts_right
