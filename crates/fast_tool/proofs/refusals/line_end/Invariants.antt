use Rattle.std.proofs.Common.{◌≤◌, ◌<◌, ◌-◌, length}
use Rattle.fast_tool.proofs.refusals.line_end.Given as goal

abbrev pub decreases-bytes : goal.decreases-bytes
decreases-bytes l = length l.text - l.last

abbrev pub invariant-bytes : goal.invariant-bytes
invariant-bytes l = (l.from ≤ l.last) × (l.last < length l.text)
