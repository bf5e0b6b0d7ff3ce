use Rattle.model_layers.proofs.CarryTrans.{definitions_carry}
use Rattle.model_layers.proofs.definitions_carry.Goals as goal

pub returns : goal.returns
returns c = definitions_carry
