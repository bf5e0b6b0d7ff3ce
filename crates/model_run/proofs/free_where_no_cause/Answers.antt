use Rattle.model_run.proofs.Free.{are_free}
use Rattle.model_run.proofs.free_where_no_cause.Goals as goal

pub returns : goal.returns
returns c = are_free
