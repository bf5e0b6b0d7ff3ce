use Rattle.model_run.proofs.Fronts.{form_cuts}
use Rattle.model_run.proofs.fronts_are_unfinished.Goals as goal

pub returns : goal.returns
returns c = form_cuts
