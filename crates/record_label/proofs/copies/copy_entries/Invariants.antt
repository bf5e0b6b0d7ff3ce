use Rattle.std.proofs.Common.{◌≡◌, take, map}
use Rattle.record_label.specs.PlainMaps.{plain_entry}
use Rattle.record_label.proofs.copies.copy_entries.Given as goal

abbrev pub invariant-loop-entry : goal.invariant-loop-entry
invariant-loop-entry l = map plain_entry l.copies.items ≡ map plain_entry (take l.entry-index l.entries)
