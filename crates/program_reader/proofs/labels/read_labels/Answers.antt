use Rattle.program_reader.proofs.RowForms.{label_item}
use Rattle.program_reader.proofs.labels.read_labels.Goals as goal

pub read_any-requires : goal.read_any-requires
read_any-requires c = label_item
