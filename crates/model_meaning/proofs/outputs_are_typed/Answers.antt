use Rattle.model_meaning.proofs.Typed.{output_typed, related_typed}
use Rattle.model_meaning.proofs.outputs_are_typed.Goals as goal

pub returns : goal.returns
returns c = record { of_names = output_typed; of_expressions = related_typed }
