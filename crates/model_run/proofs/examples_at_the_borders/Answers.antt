use Rattle.model_run.proofs.Borders.{are_not_legal}
use Rattle.model_run.proofs.examples_at_the_borders.Goals as goal

pub returns : goal.returns
returns c = are_not_legal
