use Rattle.tree_reader.proofs.ConstantForms.{constant_item}
use Rattle.tree_reader.proofs.constants.read_constants.Goals as goal

pub read_any-requires : goal.read_any-requires
read_any-requires c = constant_item
