use Rattle.model_layers.proofs.Carry.{operations_carry}
use Rattle.model_layers.proofs.operations_on_languages_carry.Goals as goal

pub returns : goal.returns
returns c = operations_carry
