use Rattle.model_meaning.proofs.Settled.{definitions}
use Rattle.model_meaning.proofs.definitions_stand_for_expressions.Goals as goal

pub returns : goal.returns
returns c = definitions
