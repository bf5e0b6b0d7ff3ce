use Rattle.std.proofs.Common.{Option, None, ℕ, ◌∙◌, sym, ap, ap₂, append_assoc, subst}
use Rattle.fast_fault.specs.declared.code.Code.TheVariants.{WrongKind}
use Rattle.fast_syntax.specs.Plain.{plain_x, plain_claim}
use Rattle.fast_syntax.specs.declared.items.Claim.{Claim}
use Rattle.model_names.specs.Kinds.{language, transformation}
use Rattle.model_checks.specs.Failures.{fails_if}
use Rattle.model_checks.specs.Expressions.{type_as, output_as, whole_failures}
use Rattle.model_checks.specs.Programs.{is_tree, claim_failures}
use Rattle.program_check.specs.Contexts.{items_of, before_of}
use Rattle.program_check.specs.Typed.{IsType}
use Rattle.program_check.specs.declared.expressions.Kind.TheVariants.{Transformation}
use Rattle.program_check.proofs.Noting.{next, same}
use Rattle.program_check.proofs.Typing.{untyped, only_is}
use Rattle.program_check.proofs.checker.Checker.check_claim.Goals as goal

pub returns-in-Empty : goal.returns-in-Empty
returns-in-Empty c h =
    let last = c.note_if.ensures h in
    let whole = λ (k : Claim). claim_failures (items_of c.args.context.now) (before_of c.args.context.now) (plain_claim k) in
    same (sym (ap whole c.in-Empty.is))
    (next (c.check_x-standing.ensures.noted None (untyped (items_of c.args.context.now)) last.had) (same (ap₂ (λ b p. fails_if b WrongKind p) (c.is_tree.ensures ∙ ap is_tree c.check_x-standing.ensures.standing.kind) c.place_of.ensures) last))

pub returns-in-TypeCheck : goal.returns-in-TypeCheck
returns-in-TypeCheck c h =
    let items = items_of c.args.context.now in
    let before = before_of c.args.context.now in
    let whole = λ (k : Claim). claim_failures items before (plain_claim k) in
    let x = plain_x c.in-TypeCheck.x in
    let y = plain_x c.in-TypeCheck.y in
    let wanted = output_as items before transformation y in
    let t = c.check_beside-standing.result in
    let are = c.check_beside-standing.ensures.standing in
    let output = subst (λ (p : Option ℕ). IsType items p wanted) (sym c.only_as-output.ensures) (only_is items Transformation t.kind t.output _ _ are.kind are.output) in
    let last = c.check_as.ensures.noted wanted output h in
    same (append_assoc (whole_failures items before None language x) (whole_failures items before (type_as items before language x) transformation y) (whole_failures items before wanted language (plain_x c.in-TypeCheck.z)) ∙ sym (ap whole c.in-TypeCheck.is))
    (next (c.check_beside-standing.ensures.noted last.had) last)
