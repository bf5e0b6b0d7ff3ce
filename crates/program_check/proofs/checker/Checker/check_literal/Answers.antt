use Rattle.std.proofs.Common.{Option, Some, [], ◌++◌, sym, ap₂, map}
use Rattle.fast_syntax.specs.View.{plain_name}
use Rattle.fast_syntax.specs.Plain.{plain_expr}
use Rattle.model_program.specs.Syntax.{TypeItem}
use Rattle.model_checks.specs.Labels.{labels_failures}
use Rattle.program_check.proofs.Noting.{next, same}
use Rattle.std.proofs.lemmas.List.{length-map}
use Rattle.model_checks.specs.Rules.{label_count_failures, fields_of}
use Rattle.program_check.proofs.checker.Checker.check_literal.Goals as goal

pub returns : goal.returns
returns c h =
    let last = c.check_own_labels.ensures h in
    let name = plain_name c.args.name.now in
    let labels = map plain_expr c.args.labels.now in
    next (c.check_constructor.ensures last.had)
    (same (ap₂ (λ (t : Option TypeItem) n. label_count_failures t name n ++ labels_failures (Some []) (fields_of t) labels) c.type_at.ensures (sym (length-map c.args.labels.now plain_expr))) last)
