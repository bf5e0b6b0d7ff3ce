use Rattle.std.proofs.Common.{◌≡◌, take, map}
use Rattle.fast_tree.specs.Signatures.{plain_sort}
use Rattle.record_label.proofs.rows.sorts_of.Given as goal

abbrev pub invariant-loop-field : goal.invariant-loop-field
invariant-loop-field l = map plain_sort l.sorts.items ≡ map (λ f. plain_sort f.sort) (take l.field-index l.fields)
