use Rattle.grammar_laws.proofs.Conditions.{minus_before}
use Rattle.grammar_laws.proofs.minus_before_a_number.Goals as goal

pub returns : goal.returns
returns c = minus_before
