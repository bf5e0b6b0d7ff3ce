use Rattle.grammar_laws.proofs.Needed.{stands_or_opens}
use Rattle.grammar_laws.proofs.parentheses_are_needed.Goals as goal

pub returns : goal.returns
returns c = stands_or_opens
