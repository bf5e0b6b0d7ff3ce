use Rattle.std.proofs.Common.{◌≡◌, length, find}
use Rattle.std.specs.Prelude.{◌==◌}
use Rattle.std.specs.Option.{option_map}
use Rattle.fast_fault.proofs.sink.MemSink.cut.Given as goal

abbrev pub invariant-cuts : goal.invariant-cuts
invariant-cuts l = option_map (λ c. c.bytes) (find (λ c. c.call == l.self.calls) l.self.cuts.items) ≡ option_map (λ c. c.bytes) (find (λ c. c.call == l.self.calls) l.rest)

abbrev pub decreases-cuts : goal.decreases-cuts
decreases-cuts l = length l.rest
