use Rattle.std.proofs.Common.{◌≡◌, ◌≤◌, ◌+◌, take}
use Rattle.model_tree.specs.Tree.{depth}
use Rattle.sta_core.specs.Sta.{automaton_of}
use Rattle.sta_marks.specs.Rows.{no_state}
use Rattle.sta_marks.proofs.Passed.{AreDone}
use Rattle.sta_marks.proofs.pass.+mark.Given as goal

abbrev pub decreases-mark : goal.decreases-mark
decreases-mark g l = depth l.tree.now

abbrev pub invariant-loop-child : goal.invariant-loop-child
invariant-loop-child g l = record {
  states : l.marks.states ≡ l.fn.marks.states;
  done : AreDone g.T.Theory.label_of (automaton_of g.T.Theory.atom_holds l.table.sta.now) l.fn.marks.rows l.marks.rows (no_state l.fn.marks.states) l.children.items (take l.child-index l.child-items);
}
