use Rattle.std.proofs.Common.{◌≡◌, ◌+◌, ◌≤◌, drop, map}
use Rattle.model_label.specs.Fields.{number_at}
use Rattle.fast_tree.specs.Signatures.{plain_field, plain_sort}
use Rattle.record_label.proofs.lookups.number_of.Given as goal

abbrev pub invariant-loop-field : goal.invariant-loop-field
invariant-loop-field l =
    (l.number ≤ l.field-index) × (l.number + number_at (map plain_field (drop l.field-index l.signature.fields.items)) (plain_sort l.sort) l.name ≡ number_at (map plain_field l.signature.fields.items) (plain_sort l.sort) l.name)
