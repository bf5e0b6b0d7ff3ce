use Rattle.model_layers.proofs.Compared.{numbers_go_up}
use Rattle.model_layers.proofs.numbers_go_up.Goals as goal

pub returns : goal.returns
returns c = numbers_go_up
