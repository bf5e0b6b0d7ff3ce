use Rattle.std.proofs.Common.{ap}
use Rattle.fast_syntax.specs.Plain.{plain_program}
use Rattle.fast_tool.proofs.Texts.{is_checked}
use Rattle.fast_tool.proofs.reading.read_checked.Goals as goal

pub returns-in-Ok-clause-program : goal.returns-in-Ok-clause-program
returns-in-Ok-clause-program c =
    is_checked c.args.bytes.now (plain_program c.in_ok-program.program) (plain_program c.in-Ok.checked.program) c.in_ok-program.ensures.found c.in_ok-program.ensures.only (ap plain_program c.in-Ok.ensures.same) c.in-Ok.ensures.well_formed
