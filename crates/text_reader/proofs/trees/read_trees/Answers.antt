use Rattle.text_reader.proofs.Readings.{text_only, shallow_of}
use Rattle.text_reader.proofs.trees.read_trees.Goals as goal

pub returns-in-Ok-clause-only : goal.returns-in-Ok-clause-only
returns-in-Ok-clause-only c = λ other text. text_only _ _ _ (shallow_of _ _ _ _ c.in_ok-text.ensures.same c.deref.ensures.value c.in_ok-found.ensures.are) c.in-Ok.ensures.only other text
