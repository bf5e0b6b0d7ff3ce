use Rattle.model_meaning.proofs.Settled.{settled}
use Rattle.model_meaning.proofs.meanings_settle.Goals as goal

pub returns : goal.returns
returns c = settled
