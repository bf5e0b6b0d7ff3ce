use Rattle.model_meaning.proofs.Laws.{are_operations}
use Rattle.model_meaning.proofs.operations_are_those_of_sets.Goals as goal

pub returns : goal.returns
returns c = are_operations
