use Rattle.std.proofs.Common.{Err, subst}
use Rattle.program_check.specs.declared.programs.Checked.{Checked}
use Rattle.model_run.specs.Texts.{IsRefused}
use Rattle.text_reader.specs.Answers.{IfRefused}
use Rattle.fast_tool.specs.Taken.{IsToldOf}
use Rattle.fast_tool.proofs.Texts.{not_taken, unread, too_long_program}
use Rattle.fast_tool.proofs.reading.take_checked.Goals as goal

pub returns-in-Err-clause-report : goal.returns-in-Err-clause-report
returns-in-Err-clause-report g c = not_taken IsRefused too_long_program c.args.file.now (g.T.TextSource.held c.args.texts.now c.args.file.now) c.in-Err.status _ _ c.in-Err.ensures.refused

pub returns-clause-report : goal.returns-clause-report
returns-clause-report g c =
    let stop = c.in-Err-read_checked.stop in
    let Refuses = IsRefused in
    let refused = subst (λ b. IfRefused {T = Checked} (Err stop) (λ r. Refuses b r.code r.place)) c.deref.ensures.value c.in-Err-read_checked.ensures.refused in
    let told = subst (λ k. IsToldOf c.args.file.now stop (g.K.Sink.written k) (g.K.Sink.written c.tell_unread.new.sink) c.tell_unread.result) c.in-Ok.ensures.untouched c.tell_unread.ensures.told in
    unread Refuses Checked c.args.file.now (g.T.TextSource.held c.args.texts.now c.args.file.now) c.in-Ok.bytes.items stop c.tell_unread.result _ _ c.in-Ok.ensures.given refused told
