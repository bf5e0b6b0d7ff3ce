use Rattle.model_run.proofs.Valued.{lines_owe_nothing}
use Rattle.model_run.proofs.legal_lines_owe_nothing.Goals as goal

pub returns : goal.returns
returns c = lines_owe_nothing
