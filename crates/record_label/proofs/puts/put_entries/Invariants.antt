use Rattle.std.proofs.Common.{map, take}
use Rattle.record_label.specs.Maps.{put_entry, IsOutsideEntry}
use Rattle.record_label.specs.PlainMaps.{plain_entry}
use Rattle.record_label.proofs.PutFacts.{Done}
use Rattle.record_label.proofs.puts.put_entries.Given as goal

abbrev pub invariant-loop-entry : goal.invariant-loop-entry
invariant-loop-entry l =
    let first = map plain_entry l.first in Done plain_entry (put_entry first) (IsOutsideEntry first) l.made.items (take l.entry-index l.entries)
