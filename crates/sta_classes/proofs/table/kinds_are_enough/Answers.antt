use Rattle.sta_classes.proofs.Enough.{enough}
use Rattle.sta_classes.proofs.table.kinds_are_enough.Goals as goal

pub returns : goal.returns
returns g c = enough _ _ g.T.Theory.atom_holds
