use Rattle.std.proofs.Common.{◌≤◌, length}
use Rattle.fast_build.specs.Items.{items_of}
use Rattle.fast_session.proofs.Following.{AreSoFar}
use Rattle.fast_session.proofs.needed.names_for.Given as goal

abbrev pub invariant-items : goal.invariant-items
invariant-items l = record {
  low : l.left ≤ length l.items;
  so_far : AreSoFar (items_of l.checked) l.name l.left l.names.keys;
}

abbrev pub decreases-items : goal.decreases-items
decreases-items l = l.left
