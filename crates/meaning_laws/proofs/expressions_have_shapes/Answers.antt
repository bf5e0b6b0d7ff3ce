use Rattle.model_checks.proofs.SoundWhole.{sound}
use Rattle.meaning_laws.proofs.Shaped.{item_shape}
use Rattle.meaning_laws.proofs.expressions_have_shapes.Goals as goal

pub returns : goal.returns
returns c = λ items well. item_shape items (sound items well)
