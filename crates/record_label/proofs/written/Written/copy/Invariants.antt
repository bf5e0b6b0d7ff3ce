use Rattle.std.proofs.Common.{◌≡◌, take}
use Rattle.record_label.proofs.written.Written.copy.Given as goal

abbrev pub invariant-loop-mark : goal.invariant-loop-mark
invariant-loop-mark l = l.marks.items ≡ take l.mark-index l.mark-items
