use Rattle.std.proofs.Common.{◌+◌, ◌*◌, length, reverse}
use Rattle.read_forms.specs.Reads.{closed}
use Rattle.read_forms.specs.Fronts.{Leaves, Through}
use Rattle.read_forms.proofs.Fronts.{Around}
use Rattle.label_reader.specs.Results.{left}
use Rattle.program_reader.specs.Nodes.{IsXInside}
use Rattle.program_reader.specs.Growing.{IsLeft, IsGrown}
use Rattle.program_reader.proofs.terms.read_x_inside.Given as goal

abbrev pub invariant-nodes : goal.invariant-nodes
invariant-nodes l = Leaves IsXInside (Through (IsLeft l.here) (Around IsGrown (reverse l.around.items))) closed (left l.fn.reader) (left l.reader)

abbrev pub decreases-nodes : goal.decreases-nodes
decreases-nodes l = 2 * length (left l.reader) + length l.around.items
