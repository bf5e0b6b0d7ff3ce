use Rattle.std.proofs.Common.{Some, Err, ap, ◌∙◌, subst}
use Rattle.fast_syntax.specs.Plain.{plain_program}
use Rattle.fast_build.specs.Items.{items_of}
use Rattle.program_check.specs.declared.programs.Checked.{Checked}
use Rattle.model_run.specs.Generator.{self_text}
use Rattle.model_run.specs.Report.{SelfReport, StatusReport, Reports, self_name}
use Rattle.model_run.specs.Texts.{IsChecked, IsRefused}
use Rattle.text_reader.specs.Answers.{IfRefused}
use Rattle.fast_tool.proofs.Texts.{text_form, program_form, unread}
use Rattle.fast_tool.proofs.counted.run_self.Goals as goal

pub returns-in-Err-read_checked-clause-report : goal.returns-in-Err-read_checked-clause-report
returns-in-Err-read_checked-clause-report g c =
    let n = c.args.number in
    let stop = c.in-Err-read_checked.stop in
    let before = g.K.Sink.written c.args.sink.now in
    let after = g.K.Sink.written c.tell_unread.new.sink in
    let refused = subst (λ b. IfRefused {T = Checked} (Err stop) (λ r. IsRefused b r.code r.place)) c.deref.ensures.value c.in-Err-read_checked.ensures.refused in
    text_form self_name (Some (self_text n)) (SelfReport n) c.tell_unread.result before after
    (unread IsRefused Checked self_name (Some (self_text n)) c.in-Ok.text.items stop c.tell_unread.result before after c.in-Ok.ensures refused c.tell_unread.ensures.told)

pub returns-in-Ok-new-clause-report : goal.returns-in-Ok-new-clause-report
returns-in-Ok-new-clause-report g c =
    let n = c.args.number in
    let items = plain_program c.in-Ok-read_checked.checked.program in
    let before = g.K.Sink.written c.args.sink.now in
    let after = g.K.Sink.written c.count_items.new.sink in
    let is = subst (λ b. IsChecked b items) (c.deref.ensures.value ∙ c.in-Ok.ensures) c.in-Ok-read_checked.ensures.program in
    let told = subst (λ its. Reports (StatusReport (SelfReport n its)) c.count_items.result before after) (ap items_of c.in-Ok-new.ensures.program) c.count_items.ensures.report in
    program_form self_name (Some (self_text n)) items (SelfReport n) c.count_items.result before after is told
