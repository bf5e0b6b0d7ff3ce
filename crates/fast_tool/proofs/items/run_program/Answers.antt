use Rattle.std.proofs.Common.{ap}
use Rattle.fast_syntax.specs.Plain.{plain_program}
use Rattle.fast_build.specs.Items.{items_of}
use Rattle.fast_tool.proofs.Texts.{ran_report}
use Rattle.fast_tool.proofs.items.run_program.Goals as goal

pub returns-in-Ok-clause-report : goal.returns-in-Ok-clause-report
returns-in-Ok-clause-report g c =
    ran_report c.args.file.now c.args.limit (plain_program c.args.checked.program) c.in-Ok.session c.run_items.result _ _ (ap items_of c.in-Ok.ensures.program) c.in-Ok.ensures.limit c.run_items.ensures.report
