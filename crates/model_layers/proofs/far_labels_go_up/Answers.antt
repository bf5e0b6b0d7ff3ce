use Rattle.model_layers.proofs.Far.{far_labels_go_up}
use Rattle.model_layers.proofs.far_labels_go_up.Goals as goal

pub returns : goal.returns
returns c = far_labels_go_up
