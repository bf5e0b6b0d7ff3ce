use Rattle.std.proofs.Common.{◌≡◌, ◌≤◌, length, map, drop}
use Rattle.model_tree.specs.Tree.{trees_of, relabel_all}
use Rattle.model_sta.specs.Sets.{rows_meet, sets_of}
use Rattle.sta_core.specs.Sta.{automaton_of}
use Rattle.sta_marks.specs.Nodes.{nodes_of, nodes_of_all}
use Rattle.sttr_apply.specs.Sizes.{StandsAt}
use Rattle.sttr_apply.proofs.scene.Scene.demands_met.Given as goal

abbrev pub invariant-children : goal.invariant-children
invariant-children g l = record {
  at : l.i ≡ l.child-index;
  low : l.i ≤ length l.demands;
  placed : StandsAt l.number (nodes_of_all (trees_of (drop l.child-index l.children))) (nodes_of l.self.root.now);
  met : rows_meet (sets_of (automaton_of g.T.Theory.atom_holds l.self.sttr.now.looks) (relabel_all g.T.Theory.label_of (trees_of (drop l.child-index l.children)))) (map (λ d. d.items) (drop l.child-index l.demands))
      ≡ rows_meet (sets_of (automaton_of g.T.Theory.atom_holds l.self.sttr.now.looks) (relabel_all g.T.Theory.label_of (trees_of l.children))) (map (λ d. d.items) l.demands);
}
