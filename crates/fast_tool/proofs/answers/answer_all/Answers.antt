use Rattle.std.proofs.Common.{subst, map, sym}
use Rattle.fast_build.specs.Items.{items_of}
use Rattle.model_meaning.specs.Meaning.{input_type}
use Rattle.model_run.specs.Report.{named_x, trees_script, StatusReport, Reports}
use Rattle.model_run.specs.Scripts.{Writes}
use Rattle.tree_files.specs.Placed.{plain_placed, AreOfType}
use Rattle.fast_session.specs.Sessions.{items_in}
use Rattle.fast_tool.specs.Answers.{IsUnprepared}
use Rattle.fast_tool.specs.Commands.{kind_asked}
use Rattle.fast_tool.proofs.Answering.{unprepared_report}
use Rattle.fast_tool.proofs.answers.answer_all.Goals as goal

pub answer_each-requires : goal.answer_each-requires
answer_each-requires g c = record {
  prepared = c.in-Ok.ensures.prepared (kind_asked c.args.inquiry.now.question) c.requires.named;
  typed = subst (λ k. AreOfType (input_type (items_of k) (named_x c.args.inquiry.now.name.now)) (map plain_placed c.args.placed.now)) (sym c.prepare.ensures.program.program) c.requires.typed;
}

pub returns-in-Ok-clause-report : goal.returns-in-Ok-clause-report
returns-in-Ok-clause-report g c =
    let file = c.args.file.now in
    let asked = c.args.inquiry.now in
    let kind = kind_asked asked.question in
    let placed = map plain_placed c.args.placed.now in
    let after = g.K.Sink.written c.answer_each.new.sink in
    subst (λ k. Reports (StatusReport (Writes (trees_script (items_of k) file asked.name.now asked.trees.now kind placed))) c.answer_each.result (g.K.Sink.written c.args.sink.now) after) c.prepare.ensures.program.program
    (subst (λ k. Reports (StatusReport (Writes (trees_script (items_in c.prepare.new.session) file asked.name.now asked.trees.now kind placed))) c.answer_each.result (g.K.Sink.written k) after) c.in-Ok.ensures.untouched
    (c.answer_each.ensures.report file))

pub returns-in-Err-clause-report : goal.returns-in-Err-clause-report
returns-in-Err-clause-report g c =
    let items = items_in c.args.session.now in
    let asked = c.args.inquiry.now in
    let before = g.K.Sink.written c.args.sink.now in
    let after = g.K.Sink.written c.prepare.new.sink in
    unprepared_report items c.args.file.now asked.name.now asked.trees.now (kind_asked asked.question) (map plain_placed c.args.placed.now) c.in-Err.status before after
    (subst (λ n. IsUnprepared items n c.args.file.now asked.name.now before after c.in-Err.status) c.requires.limit c.in-Err.ensures.stopped)
