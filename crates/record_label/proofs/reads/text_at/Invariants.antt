use Rattle.std.proofs.Common.{◌≡◌, drop, map}
use Rattle.std.specs.List.{slice_get}
use Rattle.fast_tree.specs.Entries.{field_of}
use Rattle.record_label.specs.Rows.{texts_in}
use Rattle.record_label.proofs.reads.text_at.Given as goal

abbrev pub invariant-loop-value : goal.invariant-loop-value
invariant-loop-value l = slice_get (texts_in (map field_of (drop l.value-index l.values))) l.before ≡ slice_get (texts_in (map field_of l.values)) l.number
