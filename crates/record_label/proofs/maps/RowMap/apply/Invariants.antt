use Rattle.std.proofs.Common.{◌≡◌, true, take, map}
use Rattle.std.specs.List.{list_all}
use Rattle.model_tree.specs.Kept.{is_kept_field}
use Rattle.fast_tree.specs.Entries.{entries_of, field_of}
use Rattle.record_label.specs.Maps.{made_by}
use Rattle.record_label.specs.PlainMaps.{plain_entry}
use Rattle.record_label.proofs.maps.RowMap.apply.Given as goal

abbrev pub invariant-loop-entry : goal.invariant-loop-entry
invariant-loop-entry l =
    (map field_of l.values.items ≡ map (made_by (map field_of (entries_of l.value))) (map plain_entry (take l.entry-index l.entry-items))) × (list_all is_kept_field (map field_of l.values.items) ≡ true)
