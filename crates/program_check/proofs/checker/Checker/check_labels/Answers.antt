use Rattle.std.proofs.Common.{◌+◌, ◌∙◌, Option, sym, ap, subst, map, drop}
use Rattle.std.proofs.lemmas.List.{drop_all}
use Rattle.fast_syntax.specs.View.{plain_field}
use Rattle.fast_syntax.specs.Plain.{plain_expr}
use Rattle.fast_syntax.proofs.Appending.{drop_at}
use Rattle.program_check.specs.Known.{plain_scope}
use Rattle.program_check.proofs.NodeLabels.{label_more, labels_done}
use Rattle.fast_syntax.specs.declared.FieldItem.{FieldItem}
use Rattle.model_names.specs.Sorts.{sort_named}
use Rattle.std.specs.Option.{option_map}
use Rattle.std.specs.Prelude.{slice_get}
use Rattle.model_program.specs.Syntax as plain
use Rattle.program_check.specs.Notes.{Notes}
use Rattle.program_check.specs.declared.checker.Checker.{Checker}
use Rattle.fast_fault.specs.declared.code.Code.TheVariants.{WrongSort}
use Rattle.fast_tree.specs.Signatures.{plain_sort}
use Rattle.model_checks.specs.Failures.{fails_if}
use Rattle.model_checks.specs.Sorts.{differ_in_sort}
use Rattle.program_check.proofs.Noting.{next, same, as_same}
use Rattle.program_check.proofs.Found.{there_by, past_by}
use Rattle.program_check.specs.Nodes.{label_at}
use Rattle.program_check.proofs.Labelled.{side_is, field_sort_are}
use Rattle.program_check.proofs.checker.Checker.check_labels.Goals as goal
use Rattle.program_check.proofs.checker.Checker.check_labels.Goals.{then-number-fields, else-number-fields}

pub labels-preserved : goal.labels-preserved
labels-preserved c h =
    let s = plain_scope c.args.scope.now in
    let fields = map plain_field c.args.fields.now in
    let items = c.args.labels.now in
    let i = c.labels.number in
    let e = c.index-labels-number.result in
    let label = c.into_side-label.result in
    let sort = option_map plain_sort label.sort in
    let at = λ (o : Option plain.FieldItem). label_at s o (plain_expr e) in
    let one : Notes c.labels.self c.if-number-fields.self (at (slice_get fields i)) = elim c.if-number-fields.branch [
      | then-number-fields w ↦ subst (λ (x : Checker). Notes c.labels.self x (at (slice_get fields i))) (sym w.self-is) (λ m.
          let last = w.note_if.ensures m in
          let field = w.index-fields-number.result in
          let side = side_is c.args.scope.now e c.check_label.result label c.into_side-label.ensures (c.check_label.ensures.known last.had) in
          let differ = w.differ_in_sort-differ.ensures ∙ ap (λ o. differ_in_sort o sort) (w.sort_named-sort.ensures ∙ ap (λ (f : FieldItem). sort_named f.sort.text) (sym w.index-fields-number.is)) in
          same (ap at (there_by plain_field c.args.fields.now i field w.if-number-fields.true w.index-fields-number.is))
          (next (c.check_label.ensures.noted last.had) (same (field_sort_are s (plain_field field) (plain_expr e) label side) (same (ap (λ b. fails_if b WrongSort label.place) differ) last))))
      | else-number-fields w ↦ subst (λ (x : Checker). Notes c.labels.self x (at (slice_get fields i))) (sym w.self-is)
          (as_same (ap at (past_by plain_field c.args.fields.now i w.if-number-fields.false)) c.check_label.ensures.noted)
    ] in
    label_more s fields i (plain_expr e) (map plain_expr (drop i items)) (map plain_expr (drop (i + 1) items)) _ _ _ _
    (ap (map plain_expr) (drop_at items i e c.labels-test.true c.index-labels-number.is)) (one h) (c.labels.invariant (one h).had)

pub returns : goal.returns
returns c h =
    labels_done (plain_scope c.args.scope.now) (drop c.labels.number (map plain_field c.args.fields.now)) (map plain_expr (drop c.labels.number c.args.labels.now)) _ _ _
    (ap (map plain_expr) (drop_all c.labels.number c.args.labels.now c.labels-test.false)) (c.labels.invariant h)
