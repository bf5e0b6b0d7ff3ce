use Rattle.std.proofs.Common.{◌+◌, ◌*◌, length, reverse}
use Rattle.read_forms.specs.Reads.{closed}
use Rattle.read_forms.specs.Fronts.{Leaves, Through}
use Rattle.read_forms.proofs.Fronts.{Around}
use Rattle.model_grammar.specs.TreeFiles.{IsTree}
use Rattle.label_reader.specs.Results.{left}
use Rattle.tree_reader.specs.Growing.{IsOpen, IsGrown}
use Rattle.tree_reader.proofs.trees.read_tree.Given as goal

abbrev pub invariant-nodes : goal.invariant-nodes
invariant-nodes l = Leaves IsTree (Through (IsOpen l.here) (Around IsGrown (reverse l.around.items))) closed (left l.fn.reader) (left l.reader)

abbrev pub decreases-nodes : goal.decreases-nodes
decreases-nodes l = 2 * length (left l.reader) + length l.around.items
