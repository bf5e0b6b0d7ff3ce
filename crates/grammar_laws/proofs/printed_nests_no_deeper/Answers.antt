use Rattle.grammar_laws.proofs.KeepsItems.{printed_shallow}
use Rattle.grammar_laws.proofs.printed_nests_no_deeper.Goals as goal

pub returns : goal.returns
returns c = printed_shallow
