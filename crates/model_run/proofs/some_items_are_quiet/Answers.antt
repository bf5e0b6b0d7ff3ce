use Rattle.model_run.proofs.Laws.{are_quiet}
use Rattle.model_run.proofs.some_items_are_quiet.Goals as goal

pub returns : goal.returns
returns c = are_quiet
