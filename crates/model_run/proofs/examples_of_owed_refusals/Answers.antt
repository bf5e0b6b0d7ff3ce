use Rattle.model_run.proofs.Owed.{are_owed}
use Rattle.model_run.proofs.examples_of_owed_refusals.Goals as goal

pub returns : goal.returns
returns c = are_owed
