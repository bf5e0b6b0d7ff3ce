use Rattle.model_layers.proofs.Compared.{widths_go_up}
use Rattle.model_layers.proofs.widths_go_up.Goals as goal

pub returns : goal.returns
returns c = widths_go_up
