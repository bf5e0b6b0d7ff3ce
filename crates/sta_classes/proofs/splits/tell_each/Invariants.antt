use Rattle.std.proofs.Common.{All, length, ◌≡◌}
use Rattle.sta_classes.specs.Applying.{truth_at}
use Rattle.sta_classes.specs.Splits.{AreTelling}
use Rattle.sta_classes.proofs.Loops.{filled}
use Rattle.sta_classes.proofs.splits.tell_each.Given as goal

abbrev pub invariant-rows : goal.invariant-rows
invariant-rows g l = record {
  left : All (λ r. (g.T.Theory.meaning l.theory).keeps (g.T.Theory.label_of r.value)) l.rows.items;
  telling : AreTelling (g.T.Theory.meaning l.theory) l.list l.fn.rows.items l.rows.items l.told.items;
}

abbrev pub decreases-rows : goal.decreases-rows
decreases-rows g l = length l.rows.items

abbrev pub invariant-loop-i : goal.invariant-loop-i
invariant-loop-i g l = l.holds ≡ filled (truth_at g.T.Theory.atom_holds (g.T.Theory.label_of l.row.value)) l.i l.list
