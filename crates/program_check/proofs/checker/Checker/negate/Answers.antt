use Rattle.std.proofs.Common.{ap, ◌∙◌, sym}
use Rattle.std.specs.Prelude.{negsuc}
use Rattle.std.specs.Option.{option_map}
use Rattle.fast_fault.specs.declared.code.Code.TheVariants.{NumberRange}
use Rattle.model_form.specs.Sums.{product_form}
use Rattle.model_checks.specs.Failures.{fails_if}
use Rattle.model_checks.specs.Forms.{is_out_of_range, kept}
use Rattle.program_check.proofs.Noting.{same}
use Rattle.program_check.proofs.FormsMade.{makes, range_is, form_is}
use Rattle.program_check.proofs.checker.Checker.negate.Goals as goal

pub returns-in-Some-clause-noted : goal.returns-in-Some-clause-noted
returns-in-Some-clause-noted c h =
    let made = makes (product_form (negsuc 0) c.in-Some.form) c.scaled-made.result c.scaled-made.ensures.form c.scaled-made.ensures.in_range in
    same (ap (λ b. fails_if b NumberRange c.args.place) (range_is _ c.scaled-made.result made (c.keep.ensures.range h) ∙ ap (λ o. is_out_of_range (option_map (product_form (negsuc 0)) o)) (sym c.in-Some.is))) (c.keep.ensures.noted h)

pub returns-in-Some-clause-form : goal.returns-in-Some-clause-form
returns-in-Some-clause-form c h =
    let made = makes (product_form (negsuc 0) c.in-Some.form) c.scaled-made.result c.scaled-made.ensures.form c.scaled-made.ensures.in_range in
    c.keep.ensures.form h ∙ form_is _ c.scaled-made.result made (c.keep.ensures.range h) ∙ ap (λ o. kept (option_map (product_form (negsuc 0)) o)) (sym c.in-Some.is)
