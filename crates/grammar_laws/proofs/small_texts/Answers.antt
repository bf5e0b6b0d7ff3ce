use Rattle.grammar_laws.proofs.Texts.{one_label, both_labels, file_is}
use Rattle.grammar_laws.proofs.small_texts.Goals as goal

pub returns : goal.returns
returns c = record { one_label = one_label; two_labels = both_labels; file = file_is }
