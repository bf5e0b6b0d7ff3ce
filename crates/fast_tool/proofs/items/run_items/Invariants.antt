use Rattle.std.proofs.Common.{◌≡◌}
use Rattle.fast_session.specs.Sessions.{items_in}
use Rattle.fast_tool.specs.Runs.{Past}
use Rattle.fast_tool.proofs.items.run_items.Given as goal

abbrev pub invariant-items : goal.invariant-items
invariant-items g l =
    Past l.file (items_in l.initial.session) l.initial.session.limit l.counter l.session l.failed (g.K.Sink.written l.initial.sink) (g.K.Sink.written l.sink) × (g.K.Sink.faults l.sink ≡ g.K.Sink.faults l.initial.sink)
