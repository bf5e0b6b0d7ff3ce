use Rattle.model_run.proofs.Far.{are_far}
use Rattle.model_run.proofs.examples_of_far_labels.Goals as goal

pub returns : goal.returns
returns c = are_far
