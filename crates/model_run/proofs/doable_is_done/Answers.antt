use Rattle.model_run.proofs.Complete.{completes}
use Rattle.model_run.proofs.doable_is_done.Goals as goal

pub returns : goal.returns
returns c = completes
