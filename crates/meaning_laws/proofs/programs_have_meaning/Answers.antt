use Rattle.meaning_laws.proofs.Whole.{has_meaning}
use Rattle.meaning_laws.proofs.programs_have_meaning.Goals as goal

pub returns : goal.returns
returns c = has_meaning
