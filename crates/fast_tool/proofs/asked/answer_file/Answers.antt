use Rattle.std.proofs.Common.{subst}
use Rattle.fast_syntax.specs.Plain.{plain_program}
use Rattle.fast_tool.specs.Commands.{kind_asked}
use Rattle.model_run.specs.Report.{NameReport, StatusReport, Reports}
use Rattle.fast_tool.proofs.Texts.{text_form, program_form}
use Rattle.fast_tool.proofs.asked.answer_file.Goals as goal

pub returns-in-Ok-clause-report : goal.returns-in-Ok-clause-report
returns-in-Ok-clause-report g c =
    let items = plain_program c.in-Ok.checked.program in
    let file = c.args.asked.file.now in
    let Reported = NameReport file c.args.asked.name.now c.args.asked.trees.now (kind_asked c.args.asked.question) in
    let held = g.T.TextSource.held in
    let told = subst (λ h. Reports (StatusReport (Reported h items)) c.answer_name.result (g.K.Sink.written c.take_checked.new.sink) (g.K.Sink.written c.answer_name.new.sink)) (c.in-Ok.ensures.same c.args.asked.trees.now) c.answer_name.ensures.report in
    program_form file (held c.args.texts.now file) items (Reported (held c.args.texts.now c.args.asked.trees.now)) _ _ _ c.in-Ok.ensures.program
    (subst (λ k. Reports (StatusReport (Reported (held c.args.texts.now c.args.asked.trees.now) items)) c.answer_name.result (g.K.Sink.written k) (g.K.Sink.written c.answer_name.new.sink)) c.in-Ok.ensures.untouched told)

pub returns-in-Err-clause-report : goal.returns-in-Err-clause-report
returns-in-Err-clause-report g c =
    text_form c.args.asked.file.now (g.T.TextSource.held c.args.texts.now c.args.asked.file.now) (NameReport c.args.asked.file.now c.args.asked.name.now c.args.asked.trees.now (kind_asked c.args.asked.question) (g.T.TextSource.held c.args.texts.now c.args.asked.trees.now)) _ _ _ c.in-Err.ensures.report
