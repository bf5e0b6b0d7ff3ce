use Rattle.std.proofs.Common.{◌≡◌, take, map}
use Rattle.record_label.specs.Written.{plain_written}
use Rattle.record_label.proofs.copies.copy_written.Given as goal

abbrev pub invariant-loop-one : goal.invariant-loop-one
invariant-loop-one l = map plain_written l.copies.items ≡ map plain_written (take l.one-index l.written)
