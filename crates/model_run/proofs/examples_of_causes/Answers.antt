use Rattle.model_run.proofs.Shown.{have_causes}
use Rattle.model_run.proofs.examples_of_causes.Goals as goal

pub returns : goal.returns
returns c = have_causes
