use Rattle.std.proofs.Common.{refl}
use Rattle.text_reader.proofs.Counting.{counts_opened}
use Rattle.text_reader.proofs.nesting.open_square.Goals as goal

pub returns-clause-counts : goal.returns-clause-counts
returns-clause-counts c = λ marks counts. counts_opened _ _ marks counts refl refl refl c.in_ok-push.ensures.items
