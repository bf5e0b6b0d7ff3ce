use Rattle.std.proofs.Common.{◌≡◌, ◌≤◌, take, map, length}
use Rattle.model_tree.specs.Signature.{sorts_of}
use Rattle.fast_tree.specs.Signatures.{plain_signature}
use Rattle.fast_syntax.specs.Plain.{plain_expr}
use Rattle.record_label.specs.Written.{plain_written, written_for_each}
use Rattle.record_label.proofs.maps.kept_of_each.Given as goal

abbrev pub invariant-loop-i : goal.invariant-loop-i
invariant-loop-i l = (l.i ≤ length l.labels) × (map plain_written l.written.items ≡ written_for_each (take l.i (sorts_of (plain_signature l.into))) (take l.i (map plain_expr l.labels)))
