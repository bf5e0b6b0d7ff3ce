use Rattle.std.proofs.Common.{◌≡◌}
use Rattle.fast_session.specs.Sessions.{items_in}
use Rattle.fast_tool.specs.Tallies.{Counted}
use Rattle.fast_tool.proofs.counted.count_items.Given as goal

abbrev pub invariant-items : goal.invariant-items
invariant-items g l = Counted (items_in l.initial.session) l.counter l.session l.tally × (l.sink ≡ l.initial.sink)
