use Rattle.model_layers.proofs.Wider.{are_among, are_widened}
use Rattle.model_layers.proofs.causes_widen.Goals as goal

pub returns : goal.returns
returns c = record { among = are_among; widened = are_widened }
