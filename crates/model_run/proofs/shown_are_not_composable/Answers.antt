use Rattle.model_run.proofs.Laws.{shown_are_not_composable}
use Rattle.model_run.proofs.shown_are_not_composable.Goals as goal

pub returns : goal.returns
returns c = shown_are_not_composable
