use Rattle.std.proofs.Common.{map, string_bytes, subst}
use Rattle.model_run.specs.Words.{AreWordsOf}
use Rattle.fast_tool.specs.Commands.{command_form, asked_form}
use Rattle.fast_tool.proofs.Texts.{with_form, as_asked}
use Rattle.fast_tool.proofs.top.obey.Goals as goal

pub returns-in-Some-Answer-clause-report : goal.returns-in-Some-Answer-clause-report
returns-in-Some-Answer-clause-report g c =
    let asked = c.in-Some-Answer.asked in
    let held = g.T.TextSource.held c.args.texts.now in
    let before = g.K.Sink.written c.args.sink.now in
    let after = g.K.Sink.written c.answer_file.new.sink in
    with_form (map string_bytes c.args.words.now) held (asked_form asked.question asked.file.now asked.name.now asked.trees.now) c.answer_file.result before after (subst (λ k. AreWordsOf (map string_bytes c.args.words.now) (command_form k)) c.in-Some-Answer.field-0-is c.in-Some-Answer.ensures.some)
    (as_asked asked.question asked.file.now asked.name.now asked.trees.now held c.answer_file.result before after c.answer_file.ensures.report)
