use Rattle.fast_syntax.specs.View.{plain_name}
use Rattle.program_check.specs.Contexts.{items_of}
use Rattle.program_check.proofs.Noting.{and_next, as_same}
use Rattle.program_check.proofs.ByHead.{transformation_by_head}
use Rattle.program_check.proofs.Typing.{at_type}
use Rattle.program_check.proofs.checker.Checker.check_call.Goals as goal

pub returns : goal.returns
returns c from into found kept =
    let items = items_of c.args.context.now in
    let asked = c.check_ruled.ensures _ _ (at_type items from c.args.types.inputs found.inputs) (at_type items into c.args.types.outputs found.outputs) in
    and_next (as_same (transformation_by_head items from into (plain_name c.args.name.now)) asked) (c.check_variable.ensures (λ m. kept (asked m).had))
