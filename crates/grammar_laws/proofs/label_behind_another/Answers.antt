use Rattle.grammar_laws.proofs.Conditions.{label_behind}
use Rattle.grammar_laws.proofs.label_behind_another.Goals as goal

pub returns : goal.returns
returns c = label_behind
