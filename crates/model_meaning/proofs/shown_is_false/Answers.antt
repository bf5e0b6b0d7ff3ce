use Rattle.model_meaning.proofs.Laws.{shown_is_false}
use Rattle.model_meaning.proofs.shown_is_false.Goals as goal

pub returns : goal.returns
returns c = shown_is_false
