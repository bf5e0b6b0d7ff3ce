use Rattle.std.proofs.Common.{◌≡◌, map, drop}
use Rattle.fast_tree.specs.Signatures.{plain_field}
use Rattle.model_checks.specs.Failures.{first_among}
use Rattle.model_run.specs.Texts.{label_failures}
use Rattle.tree_reader.specs.Plain.{plain_constant}
use Rattle.tree_files.proofs.labels.first_of_labels.Given as goal

abbrev pub invariant-labels : goal.invariant-labels
invariant-labels l =
    first_among l.first (label_failures (drop l.number (map plain_field l.fields)) (map plain_constant (drop l.number l.labels))) ≡ first_among l.initial.first (label_failures (map plain_field l.fields) (map plain_constant l.labels))
