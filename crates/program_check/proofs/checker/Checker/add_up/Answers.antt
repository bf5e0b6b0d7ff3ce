use Rattle.std.proofs.Common.{ap, ◌∙◌, sym, Some}
use Rattle.std.specs.Option.{option_map}
use Rattle.fast_fault.specs.declared.code.Code.TheVariants.{NumberRange}
use Rattle.model_form.specs.Sums.{sum_form}
use Rattle.lin_form.specs.Gathered.{plain_parts}
use Rattle.model_checks.specs.Failures.{fails_if}
use Rattle.model_checks.specs.Forms.{is_out_of_range, kept}
use Rattle.program_check.specs.Known.{plain_added}
use Rattle.program_check.proofs.Noting.{same}
use Rattle.program_check.proofs.FormsMade.{makes, range_is, form_is}
use Rattle.program_check.proofs.checker.Checker.add_up.Goals as goal

pub returns-clause-noted : goal.returns-clause-noted
returns-clause-noted c h =
    let made = makes (sum_form (plain_parts c.deref.result.now)) c.of_sum-made.result c.of_sum-made.ensures.form c.of_sum-made.ensures.in_range in
    same (ap (λ b. fails_if b NumberRange c.args.place) (range_is _ c.of_sum-made.result made (c.keep.ensures.range h) ∙ ap (λ xs. is_out_of_range (Some (sum_form (plain_parts xs)))) c.deref.ensures.value ∙ ap (λ o. is_out_of_range (option_map sum_form (plain_added o))) (sym c.in-Some.is))) (c.keep.ensures.noted h)

pub returns-clause-form : goal.returns-clause-form
returns-clause-form c h =
    let made = makes (sum_form (plain_parts c.deref.result.now)) c.of_sum-made.result c.of_sum-made.ensures.form c.of_sum-made.ensures.in_range in
    c.keep.ensures.form h ∙ form_is _ c.of_sum-made.result made (c.keep.ensures.range h) ∙ ap (λ xs. kept (Some (sum_form (plain_parts xs)))) c.deref.ensures.value ∙ ap (λ o. kept (option_map sum_form (plain_added o))) (sym c.in-Some.is)
