use Rattle.std.proofs.Common.{Err, subst}
use Rattle.std.proofs.Common.{Vec, Global}
use Rattle.fast_tree.specs.Signatures.{plain_signature}
use Rattle.model_run.specs.Texts.{IsFileRefused}
use Rattle.tree_files.specs.declared.PlacedTree.{PlacedTree}
use Rattle.text_reader.specs.Answers.{IfRefused}
use Rattle.fast_tool.specs.Taken.{IsToldOf}
use Rattle.fast_tool.proofs.Texts.{not_taken, unread, too_long_file}
use Rattle.fast_tool.proofs.reading.take_trees.Goals as goal

pub returns-in-Err-clause-report : goal.returns-in-Err-clause-report
returns-in-Err-clause-report g c = not_taken (IsFileRefused (plain_signature c.args.signature.now)) (too_long_file (plain_signature c.args.signature.now)) c.args.file.now (g.T.TextSource.held c.args.texts.now c.args.file.now) c.in-Err.status _ _ c.in-Err.ensures.refused

pub returns-clause-report : goal.returns-clause-report
returns-clause-report g c =
    let stop = c.in-Err-read_typed.stop in
    let Refuses = (IsFileRefused (plain_signature c.args.signature.now)) in
    let refused = subst (λ b. IfRefused {T = (Vec PlacedTree Global)} (Err stop) (λ r. Refuses b r.code r.place)) c.deref.ensures.value c.in-Err-read_typed.ensures.refused in
    let told = subst (λ k. IsToldOf c.args.file.now stop (g.K.Sink.written k) (g.K.Sink.written c.tell_unread.new.sink) c.tell_unread.result) c.in-Ok.ensures.untouched c.tell_unread.ensures.told in
    unread Refuses (Vec PlacedTree Global) c.args.file.now (g.T.TextSource.held c.args.texts.now c.args.file.now) c.in-Ok.bytes.items stop c.tell_unread.result _ _ c.in-Ok.ensures.given refused told
