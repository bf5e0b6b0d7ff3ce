use Rattle.std.proofs.Common.{ap, ◌∙◌, to_z, of_z}
use Rattle.std.specs.Int.{w128}
use Rattle.fast_fault.specs.declared.code.Code.TheVariants.{NumberRange}
use Rattle.model_form.specs.Sums.{product_form}
use Rattle.model_checks.specs.Failures.{fails_if}
use Rattle.model_checks.specs.Forms.{is_out_of_range, kept}
use Rattle.program_check.proofs.Noting.{same}
use Rattle.program_check.proofs.FormsMade.{makes, range_is, form_is}
use Rattle.program_check.proofs.Products.{by_factor, by_before}
use Rattle.program_check.proofs.Held.{held}
use Rattle.program_check.proofs.checker.Checker.multiply.Goals as goal

pub returns-then-not-factor-clause-noted : goal.returns-then-not-factor-clause-noted
returns-then-not-factor-clause-noted c h =
    let made = makes (product_form (to_z w128 (of_z w128 c.constant.result)) c.in-Some-Some.left) c.scaled-made.result c.scaled-made.ensures.form c.scaled-made.ensures.in_range in
    let is = by_factor c.args.before.now.has_field _ _ _ _ _ _ c.in-Some-Some.is-0 c.in-Some-Some.is-1 c.if-not-factor.true (held c.in-Some-Some.right c.constant.result c.constant.ensures.value c.constant.ensures.form) in
    same (ap (λ b. fails_if b NumberRange c.args.place) (range_is _ c.scaled-made.result made (c.keep.ensures.range h) ∙ ap is_out_of_range is)) (c.keep.ensures.noted h)

pub returns-then-not-factor-clause-form : goal.returns-then-not-factor-clause-form
returns-then-not-factor-clause-form c h =
    let made = makes (product_form (to_z w128 (of_z w128 c.constant.result)) c.in-Some-Some.left) c.scaled-made.result c.scaled-made.ensures.form c.scaled-made.ensures.in_range in
    let is = by_factor c.args.before.now.has_field _ _ _ _ _ _ c.in-Some-Some.is-0 c.in-Some-Some.is-1 c.if-not-factor.true (held c.in-Some-Some.right c.constant.result c.constant.ensures.value c.constant.ensures.form) in
    c.keep.ensures.form h ∙ form_is _ c.scaled-made.result made (c.keep.ensures.range h) ∙ ap kept is

pub returns-clause-noted : goal.returns-clause-noted
returns-clause-noted c h =
    let made = makes (product_form (to_z w128 (of_z w128 c.constant-2.result)) c.in-Some-Some.right) c.scaled-made-2.result c.scaled-made-2.ensures.form c.scaled-made-2.ensures.in_range in
    let is = by_before _ _ _ _ _ _ _ c.in-Some-Some.is-0 c.in-Some-Some.is-1 c.if-not-factor.false c.if-before.false (held c.in-Some-Some.left c.constant-2.result c.constant-2.ensures.value c.constant-2.ensures.form) in
    same (ap (λ b. fails_if b NumberRange c.args.place) (range_is _ c.scaled-made-2.result made (c.keep-2.ensures.range h) ∙ ap is_out_of_range is)) (c.keep-2.ensures.noted h)

pub returns-clause-form : goal.returns-clause-form
returns-clause-form c h =
    let made = makes (product_form (to_z w128 (of_z w128 c.constant-2.result)) c.in-Some-Some.right) c.scaled-made-2.result c.scaled-made-2.ensures.form c.scaled-made-2.ensures.in_range in
    let is = by_before _ _ _ _ _ _ _ c.in-Some-Some.is-0 c.in-Some-Some.is-1 c.if-not-factor.false c.if-before.false (held c.in-Some-Some.left c.constant-2.result c.constant-2.ensures.value c.constant-2.ensures.form) in
    c.keep-2.ensures.form h ∙ form_is _ c.scaled-made-2.result made (c.keep-2.ensures.range h) ∙ ap kept is
