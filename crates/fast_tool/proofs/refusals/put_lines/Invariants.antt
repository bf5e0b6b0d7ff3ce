use Rattle.std.proofs.Common.{◌≡◌, ◌≤◌, ◌-◌, length, take}
use Rattle.fast_fault.specs.Written.{Appends}
use Rattle.fast_tool.proofs.refusals.put_lines.Given as goal

abbrev pub decreases-lines : goal.decreases-lines
decreases-lines g l = length l.text - l.from

abbrev pub invariant-lines : goal.invariant-lines
invariant-lines g l = (l.from ≤ length l.text) × Appends (g.K.Sink.written l.initial.sink) (g.K.Sink.written l.sink) (take l.from l.text) × (g.K.Sink.faults l.sink ≡ g.K.Sink.faults l.initial.sink)
