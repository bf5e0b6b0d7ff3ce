use Rattle.model_meaning.proofs.Laws.{true_where_not_shown}
use Rattle.model_meaning.proofs.unshown_is_true.Goals as goal

pub returns : goal.returns
returns c = true_where_not_shown
