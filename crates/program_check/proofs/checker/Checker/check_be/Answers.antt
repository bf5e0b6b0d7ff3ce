use Rattle.std.proofs.Common.{◌∙◌, ap}
use Rattle.fast_fault.specs.declared.code.Code.TheVariants.{WrongKind, WrongType}
use Rattle.model_checks.specs.Failures.{fails_if}
use Rattle.program_check.specs.Typed.{apart}
use Rattle.program_check.proofs.Noting.{and_next, as_same}
use Rattle.program_check.proofs.checker.Checker.check_be.Goals as goal

pub returns : goal.returns
returns c =
    and_next (as_same (ap (λ b. fails_if b WrongKind c.args.place) c.is_other_kind.ensures) c.note_if.ensures)
    (as_same (ap (λ b. fails_if b WrongType c.args.place) (c.differ.ensures ∙ ap (apart c.args.of) c.only_as-found.ensures)) c.note_if-2.ensures)
