use Rattle.std.proofs.Common.{refl}
use Rattle.text_reader.proofs.Counting.{counts_closed}
use Rattle.text_reader.proofs.nesting.close_round.Goals as goal

pub returns-clause-counts : goal.returns-clause-counts
returns-clause-counts c = λ marks counts. counts_closed _ _ marks counts refl c.saturating_sub.ensures c.min.ensures refl
