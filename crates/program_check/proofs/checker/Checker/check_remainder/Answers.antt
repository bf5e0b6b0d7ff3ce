use Rattle.std.proofs.Common.{◌∙◌, sym, not}
use Rattle.std.specs.Prelude.{is_some}
use Rattle.fast_fault.specs.declared.code.Code.TheVariants.{BadModulus}
use Rattle.model_checks.specs.Failures.{fails_if}
use Rattle.program_check.proofs.Noting.{same}
use Rattle.program_check.proofs.Places.{place_is}
use Rattle.program_check.proofs.checker.Checker.check_remainder.Goals as goal

pub returns-in_default-clause-noted : goal.returns-in_default-clause-noted
returns-in_default-clause-noted c h =
    let none = sym c.divisor_of.ensures.is ∙ c.in_default.is in
    same (sym (λ i. fails_if (not (is_some (none i))) BadModulus (place_is c.args.e.now i))) (c.note.ensures h)
