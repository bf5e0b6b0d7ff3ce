use Rattle.meaning_laws.proofs.Reaching.{by_langs, by_trans}
use Rattle.meaning_laws.proofs.reached_have_types.Goals as goal

pub returns-clause-languages : goal.returns-clause-languages
returns-clause-languages c = by_langs

pub returns-clause-transformations : goal.returns-clause-transformations
returns-clause-transformations c = by_trans
