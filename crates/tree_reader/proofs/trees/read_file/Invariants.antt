use Rattle.std.proofs.Common.{length, map, ◌++◌}
use Rattle.read_forms.specs.Reads.{anything}
use Rattle.model_program.specs.Grammar.{Many}
use Rattle.model_grammar.specs.TreeFiles.{IsTree, IsTreeFile}
use Rattle.read_forms.proofs.Lists.{IsPartWay}
use Rattle.tree_reader.specs.Plain.{plain_tree}
use Rattle.label_reader.specs.Results.{left}
use Rattle.tree_reader.proofs.trees.read_file.Given as goal

abbrev pub invariant-items : goal.invariant-items
invariant-items l = IsPartWay IsTreeFile (Many IsTree) anything (λ b. map plain_tree l.all.items ++ b) (left l.fn.reader) (left l.reader)

abbrev pub decreases-items : goal.decreases-items
decreases-items l = length (left l.reader)
