use Rattle.model_run.proofs.Laws.{classes_are_unions}
use Rattle.model_run.proofs.classes_are_unions.Goals as goal

pub returns : goal.returns
returns c = classes_are_unions
