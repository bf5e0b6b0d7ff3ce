use Rattle.std.proofs.Common.{map, drop}
use Rattle.fast_syntax.specs.View.{plain_field}
use Rattle.fast_syntax.specs.Plain.{plain_expr}
use Rattle.model_checks.specs.Labels.{labels_failures}
use Rattle.program_check.specs.Known.{plain_scope}
use Rattle.program_check.specs.Notes.{Left}
use Rattle.program_check.proofs.checker.Checker.check_labels.Given as goal

abbrev pub invariant-labels : goal.invariant-labels
invariant-labels l =
    let s = plain_scope l.scope in
    Left l.initial.self l.self (labels_failures s (map plain_field l.fields) (map plain_expr l.labels)) (labels_failures s (drop l.number (map plain_field l.fields)) (map plain_expr (drop l.number l.labels)))
