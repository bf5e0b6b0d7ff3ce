use Rattle.std.proofs.Common.{◌+◌, map, drop, ap, ◌∙◌}
use Rattle.fast_tree.specs.Signatures.{plain_field}
use Rattle.fast_syntax.proofs.Appending.{drop_at}
use Rattle.model_checks.specs.Failures.{first_among}
use Rattle.tree_reader.specs.Plain.{plain_constant}
use Rattle.tree_files.specs.Labels.{failures_at}
use Rattle.tree_files.proofs.Failing.{label_more}
use Rattle.tree_files.proofs.labels.first_of_labels.Goals as goal

pub labels-preserved : goal.labels-preserved
labels-preserved c =
    let labels = c.args.labels.now in
    let i = c.labels.number in
    label_more (map plain_field c.args.fields.now) i (plain_constant c.index-labels-number.result) (map plain_constant (drop i labels)) (map plain_constant (drop (i + 1) labels)) _ _ _
    (ap (map plain_constant) (drop_at labels i c.index-labels-number.result c.labels-test.true c.index-labels-number.is))
    (c.first_of_label-first.ensures ∙ ap (λ o. first_among c.labels.first (failures_at o (plain_constant c.index-labels-number.result))) c.field_at.ensures) c.labels.invariant
