use Rattle.program_check.proofs.SumParts.{pushed}
use Rattle.program_check.proofs.checker.Checker.with_part.Goals as goal

pub returns-in-Ok-clause-added : goal.returns-in-Ok-clause-added
returns-in-Ok-clause-added c h = pushed c.args.added c.in-Some.parts c.push.new.self (record { minus = c.args.minus; form = c.in-Some-form.form }) c.args.form c.in-Some.is c.in-Some-form.is c.in-Ok.ensures.items
