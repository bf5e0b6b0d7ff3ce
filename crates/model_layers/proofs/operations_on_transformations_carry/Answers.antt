use Rattle.model_layers.proofs.CarryTrans.{operations_carry}
use Rattle.model_layers.proofs.operations_on_transformations_carry.Goals as goal

pub returns : goal.returns
returns c = operations_carry
