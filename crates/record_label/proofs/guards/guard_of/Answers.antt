use Rattle.std.proofs.Common.{◌≤◌, length, sym, subst}
use Rattle.std.proofs.lemmas.List.{length-map}
use Rattle.model_tree.specs.Limits.{most_fields}
use Rattle.fast_tree.specs.Signatures.{plain_signature, plain_field}
use Rattle.fast_syntax.specs.Plain.{plain_expr}
use Rattle.record_label.specs.Guards.{IsGuardOf}
use Rattle.record_label.proofs.GuardFacts.{guard_is}
use Rattle.record_label.proofs.guards.guard_of.Goals as goal

pub unreachable-requires : goal.unreachable-requires
unreachable-requires c = c.requires.within c.in-Err-Range.field-0-0 (rw c.in-Err-Range.field-0-is at c.in-Err-Range.ensures)

pub returns-in-Ok-clause-guard : goal.returns-in-Ok-clause-guard
returns-in-Ok-clause-guard c =
    let fields = (plain_signature c.args.signature.now).fields in
    let few : length fields ≤ most_fields = subst (λ k. k ≤ most_fields) (sym (length-map c.args.signature.now.fields.items plain_field)) c.requires.few in
    subst (IsGuardOf fields (plain_expr c.args.expr.now)) (sym c.in-Ok.ensures) (guard_is fields few (plain_expr c.args.expr.now) c.requires.guard)
