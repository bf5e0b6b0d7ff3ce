use Rattle.std.proofs.Common.{◌∙◌, ap}
use Rattle.model_checks.specs.Failures.{fails_if}
use Rattle.program_check.proofs.Noting.{and_next, as_same}
use Rattle.program_check.proofs.Typing.{at_type, differ_is}
use Rattle.fast_fault.specs.declared.code.Code.TheVariants.{WrongType}
use Rattle.program_check.proofs.checker.Checker.check_child.Goals as goal

pub returns : goal.returns
returns c items from into found kept =
    let inputs = at_type items from c.args.types.inputs found.inputs in
    let outputs = at_type items into c.args.types.outputs found.outputs in
    and_next (c.check_variable.ensures kept) (as_same (ap (λ b. fails_if b WrongType c.args.name.now.place) (c.differ-differ.ensures ∙ differ_is items _ _ _ _ inputs outputs)) c.note_if.ensures)
