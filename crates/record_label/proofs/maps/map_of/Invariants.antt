use Rattle.std.proofs.Common.{◌≤◌, take, map, length}
use Rattle.model_tree.specs.Signature.{sorts_of}
use Rattle.fast_tree.specs.Signatures.{plain_signature}
use Rattle.fast_syntax.specs.Plain.{plain_expr}
use Rattle.record_label.specs.Maps.{AreEntriesOf}
use Rattle.record_label.specs.PlainMaps.{plain_entry}
use Rattle.record_label.proofs.maps.map_of.Given as goal

abbrev pub invariant-loop-i : goal.invariant-loop-i
invariant-loop-i l = (l.i ≤ length l.labels) × AreEntriesOf (plain_signature l.from).fields (take l.i (map plain_expr l.labels)) (take l.i (sorts_of (plain_signature l.into))) (map plain_entry l.entries.items)
