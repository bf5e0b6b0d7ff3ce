use Rattle.model_grammar.proofs.WrittenTrees.{reads_as_tree}
use Rattle.model_grammar.proofs.laws.printed_trees_read_back.Goals as goal

pub returns : goal.returns
returns c = λ names t are named kept. reads_as_tree names are t named kept
