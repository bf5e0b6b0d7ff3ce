use Rattle.record_label.proofs.Pieces.{alike}
use Rattle.record_label.proofs.written.written_alike.Goals as goal

pub returns : goal.returns
returns c = alike
