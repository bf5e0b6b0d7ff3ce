use Rattle.std.proofs.Common.{◌+◌, ◌*◌, reverse}
use Rattle.fast_syntax.specs.Plain.{plain_x}
use Rattle.fast_eval.specs.Table.{IsGrown, AreBuilt}
use Rattle.tree_values.specs.Nodes.{IsReached}
use Rattle.tree_values.specs.Values.{items_in}
use Rattle.tree_values.proofs.Weights.{weight, burdens, burden_here}
use Rattle.tree_values.proofs.values.+evaluate.Given as goal

abbrev pub decreases-begin : goal.decreases-begin
decreases-begin l = 3 * weight (plain_x l.x.now)

abbrev pub decreases-evaluate : goal.decreases-evaluate
decreases-evaluate l = 3 * weight (plain_x l.x.now) + 1

abbrev pub decreases-apply : goal.decreases-apply
decreases-apply l = 3 * weight (plain_x l.x.now) + 2

abbrev pub invariant-evaluate-nodes : goal.invariant-evaluate-nodes
invariant-evaluate-nodes l = record { built : AreBuilt (items_in l.given) l.built; grown : IsGrown l.fn.built l.built; reached : IsReached l.given l.of (plain_x l.x) l.room (reverse l.around.items) l.here }

abbrev pub decreases-evaluate-nodes : goal.decreases-evaluate-nodes
decreases-evaluate-nodes l = burden_here l.here + burdens (reverse l.around.items)
