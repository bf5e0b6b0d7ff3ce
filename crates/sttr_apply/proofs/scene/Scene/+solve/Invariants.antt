use Rattle.std.proofs.Common.{◌≡◌, ◌+◌, suc, length, map, drop}
use Rattle.model_tree.specs.Tree.{depth, trees_of}
use Rattle.sttr_core.specs.Machine.{transducer_of}
use Rattle.sttr_core.specs.Terms.{plain_term}
use Rattle.sta_marks.specs.Nodes.{nodes_of, nodes_of_all}
use Rattle.sttr_apply.specs.Calls.{calls_each}
use Rattle.sttr_apply.specs.Sizes.{StandsAt}
use Rattle.sttr_apply.specs.Tables.{AreFoundAt, HasUses, lists_in}
use Rattle.sttr_apply.proofs.scene.Scene.+solve.Given as goal

abbrev pub decreases-solve : goal.decreases-solve
decreases-solve g l = suc (depth l.tree.now + depth l.tree.now)

abbrev pub decreases-below : goal.decreases-below
decreases-below g l = depth l.place.now.tree.now + depth l.place.now.tree.now

abbrev pub invariant-below-children : goal.invariant-below-children
invariant-below-children g l = record {
  at : l.i ≡ l.child-index;
  width : length l.table.items ≡ l.child-index;
  placed : StandsAt l.number (nodes_of_all (trees_of (drop l.child-index l.child-items))) (nodes_of l.self.root.now);
  found : AreFoundAt g.T.Theory.label_of g.T.Value.Ord.cmp (transducer_of g.T.Theory.atom_holds g.T.Labels.make l.self.sttr.now) l.place.tree.now (lists_in l.table.items);
  uses : HasUses (lists_in l.table.items) (λ q k. calls_each q k (map (λ those. map (λ t. plain_term t.now) those.items) l.lists));
}
