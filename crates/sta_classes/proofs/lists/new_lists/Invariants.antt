use Rattle.std.proofs.Common.{map, length}
use Rattle.sta_classes.specs.Rows.{lists_of}
use Rattle.sta_classes.proofs.NewLists.{HaveBefore}
use Rattle.sta_classes.proofs.lists.new_lists.Given as goal

abbrev pub invariant-places : goal.invariant-places
invariant-places l = HaveBefore (map (λ p. p.firsts.items) l.fn.places) l.last (length l.fn.places) l.place (lists_of l.lists.items)
