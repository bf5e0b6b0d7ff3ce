use Rattle.std.proofs.Common.{subst}
use Rattle.fast_syntax.specs.Plain.{plain_program}
use Rattle.model_run.specs.Report.{CheckReport, StatusReport, Reports}
use Rattle.fast_tool.proofs.Texts.{text_form, program_form}
use Rattle.fast_tool.proofs.top.check_file.Goals as goal

pub returns-in-Ok-clause-report : goal.returns-in-Ok-clause-report
returns-in-Ok-clause-report g c = program_form c.args.file.now (g.T.TextSource.held c.args.texts.now c.args.file.now) (plain_program c.in-Ok.checked.program) CheckReport _ _ _ c.in-Ok.ensures.program
    (subst (λ k. Reports (StatusReport (CheckReport (plain_program c.in-Ok.checked.program))) c.tell_checked.result (g.K.Sink.written k) (g.K.Sink.written c.tell_checked.new.sink)) c.in-Ok.ensures.untouched c.tell_checked.ensures.report)

pub returns-in-Err-clause-report : goal.returns-in-Err-clause-report
returns-in-Err-clause-report g c = text_form c.args.file.now (g.T.TextSource.held c.args.texts.now c.args.file.now) CheckReport _ _ _ c.in-Err.ensures.report
