use Rattle.std.proofs.Common.{◌≡◌, ◌≤◌, true, length, sym, subst, ◌∙◌}
use Rattle.std.proofs.lemmas.List.{length-map}
use Rattle.model_label.specs.Tests.{is_text}
use Rattle.model_tree.specs.Limits.{most_fields}
use Rattle.model_tree.specs.Signature.{texts}
use Rattle.label_core.specs.Formula.{plain_formula}
use Rattle.fast_tree.specs.Signatures.{plain_signature, plain_field}
use Rattle.fast_syntax.specs.Plain.{plain_expr}
use Rattle.record_label.specs.Guards.{side_of}
use Rattle.record_label.specs.Maps.{text_by, IsEntryOf}
use Rattle.record_label.proofs.EntryFacts.{number_entry, truth_entry, text_entry, given_side}
use Rattle.record_label.proofs.maps.entry_of.Goals as goal

pub unreachable-requires : goal.unreachable-requires
unreachable-requires c = c.requires.within c.in-Err-Range.field-0-0 (rw c.in-Err-Range.field-0-is at c.in-Err-Range.ensures)

pub returns-in-Ok : goal.returns-in-Ok
returns-in-Ok c =
    let fields = (plain_signature c.args.from.now).fields in
    let few : length fields ≤ most_fields = subst (λ k. k ≤ most_fields) (sym (length-map c.args.from.now.fields.items plain_field)) c.requires.few in
    rw c.in-Int.is (number_entry fields few (plain_expr c.args.expr.now) c.in-Ok.form (rw c.in-Int.is at c.requires.sorted) c.in-Ok.ensures)

pub returns-in-Ok-guard_of : goal.returns-in-Ok-guard_of
returns-in-Ok-guard_of c = rw c.in-Bool.is (truth_entry (plain_signature c.args.from.now).fields (plain_expr c.args.expr.now) (plain_formula c.in-Ok-guard_of.guard) (rw c.in-Bool.is at c.requires.sorted) c.in-Ok-guard_of.ensures.guard c.in-Ok-guard_of.ensures.formula)

pub returns-in-Ok-Some : goal.returns-in-Ok-Some
returns-in-Ok-Some c =
    let fields = (plain_signature c.args.from.now).fields in
    let e = plain_expr c.args.expr.now in
    let is : is_text fields e ≡ true = rw c.in-Text.is at c.requires.sorted in
    let same : c.in-Ok-Some.side ≡ side_of fields e = given_side (is_text fields e) c.in-Ok-Some.side (side_of fields e) is (sym c.in-Ok-Some.field-0-is ∙ c.in-Ok-Some.ensures) in
    rw c.in-Text.is (subst (λ s. IsEntryOf fields e texts (text_by s)) (sym same) (text_entry fields e is))
