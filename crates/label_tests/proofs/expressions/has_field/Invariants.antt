use Rattle.std.proofs.Common.{◌≡◌, drop, map}
use Rattle.model_label.specs.Fields.{has_field}
use Rattle.fast_tree.specs.Signatures.{plain_field, plain_sort}
use Rattle.label_tests.proofs.expressions.has_field.Given as goal

abbrev pub invariant-loop-field : goal.invariant-loop-field
invariant-loop-field l = has_field (map plain_field (drop l.field-index l.signature.fields.items)) (plain_sort l.sort) l.name ≡ has_field (map plain_field l.signature.fields.items) (plain_sort l.sort) l.name
