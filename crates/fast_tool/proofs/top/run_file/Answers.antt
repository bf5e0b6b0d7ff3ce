use Rattle.std.proofs.Common.{subst}
use Rattle.fast_syntax.specs.Plain.{plain_program}
use Rattle.model_run.specs.Report.{RunReport, StatusReport, Reports}
use Rattle.model_run.specs.Words.{limit_of}
use Rattle.fast_tool.proofs.Texts.{text_form, program_form}
use Rattle.fast_tool.proofs.top.run_file.Goals as goal

pub returns-in-Ok-clause-report : goal.returns-in-Ok-clause-report
returns-in-Ok-clause-report g c =
    let limit = limit_of c.args.limit in
    let items = plain_program c.in-Ok.checked.program in
    program_form c.args.file.now (g.T.TextSource.held c.args.texts.now c.args.file.now) items (RunReport c.args.file.now limit) _ _ _ c.in-Ok.ensures.program
    (subst (λ k. Reports (StatusReport (RunReport c.args.file.now limit items)) c.run_program.result (g.K.Sink.written k) (g.K.Sink.written c.run_program.new.sink)) c.in-Ok.ensures.untouched
    (subst (λ n. Reports (StatusReport (RunReport c.args.file.now n items)) c.run_program.result (g.K.Sink.written c.take_checked.new.sink) (g.K.Sink.written c.run_program.new.sink)) c.unwrap_or.ensures c.run_program.ensures.report))

pub returns-in-Err-clause-report : goal.returns-in-Err-clause-report
returns-in-Err-clause-report g c = text_form c.args.file.now (g.T.TextSource.held c.args.texts.now c.args.file.now) (RunReport c.args.file.now (limit_of c.args.limit)) _ _ _ c.in-Err.ensures.report
