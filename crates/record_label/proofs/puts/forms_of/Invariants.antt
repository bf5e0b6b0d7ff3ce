use Rattle.std.proofs.Common.{◌≡◌, ◌++◌, drop, map}
use Rattle.record_label.specs.Maps.{forms_of}
use Rattle.record_label.specs.PlainMaps.{plain_entry}
use Rattle.record_label.proofs.puts.forms_of.Given as goal

abbrev pub invariant-loop-entry : goal.invariant-loop-entry
invariant-loop-entry l = l.forms.items ++ forms_of (map plain_entry (drop l.entry-index l.entries)) ≡ forms_of (map plain_entry l.entries)
