use Rattle.std.proofs.Common.{◌≡◌, map, subst}
use Rattle.fast_tree.specs.Signatures.{plain_signature}
use Rattle.fast_syntax.specs.Plain.{plain_program}
use Rattle.fast_tool.specs.Commands.{kind_asked}
use Rattle.model_meaning.specs.Meaning.{input_type}
use Rattle.model_run.specs.Report.{named_x, trees_script, StatusReport, Reports}
use Rattle.model_run.specs.Scripts.{Writes}
use Rattle.model_run.specs.Texts.{IsNameOf, IsNameRefused}
use Rattle.tree_files.specs.Placed.{plain_placed}
use Rattle.fast_tool.proofs.Texts.{name_refused, trees_refused, trees_given}
use Rattle.fast_tool.proofs.asked.answer_name.Goals as goal

pub returns-in-Err-type_of_trees-clause-report : goal.returns-in-Err-type_of_trees-clause-report
returns-in-Err-type_of_trees-clause-report g c =
    let asked = c.args.asked in
    let items = plain_program c.args.checked.program in
    let code = c.in-Err-type_of_trees.code in
    let refused = subst (λ n. IsNameRefused items (kind_asked asked.question) n code) c.in-Ok.ensures c.in-Err-type_of_trees.ensures.refused in
    name_refused asked.file.now asked.name.now asked.trees.now (kind_asked asked.question) (g.T.TextSource.held c.args.texts.now asked.trees.now) items code c.refuse_name.result (g.K.Sink.written c.args.sink.now) (g.K.Sink.written c.refuse_name.new.sink) refused c.refuse_name.ensures.ends

pub returns-in-Ok-take_trees-clause-report : goal.returns-in-Ok-take_trees-clause-report
returns-in-Ok-take_trees-clause-report g c =
    let asked = c.args.asked in
    let file = asked.file.now in
    let trees = asked.trees.now in
    let items = plain_program c.args.checked.program in
    let held = g.T.TextSource.held c.args.texts.now trees in
    let signature = plain_signature c.in-Ok-type_of_trees.signature.now in
    let of = subst (λ n. signature ≡ input_type items (named_x n)) c.in-Ok.ensures c.in-Ok-type_of_trees.ensures.of in
    let named = subst (IsNameOf items (kind_asked asked.question)) c.in-Ok.ensures c.in-Ok-type_of_trees.ensures.named in
    let status = c.answer_trees.result in
    let after = g.K.Sink.written c.answer_trees.new.sink in
    let taken = c.in-Ok-take_trees.ensures {u = tt} in
    let by_name = subst (λ n. Reports (StatusReport (Writes (trees_script items file n trees (kind_asked asked.question) (map plain_placed c.deref.result.now)))) status (g.K.Sink.written c.take_trees.new.sink) after) c.in-Ok.ensures c.answer_trees.ensures.report in
    let from_start = subst (λ k. Reports (StatusReport (Writes (trees_script items file asked.name.now trees (kind_asked asked.question) (map plain_placed c.deref.result.now)))) status (g.K.Sink.written k) after) taken.untouched by_name in
    trees_given file asked.name.now trees (kind_asked asked.question) held items signature of named (map plain_placed c.in-Ok-take_trees.placed.items) status (g.K.Sink.written c.args.sink.now) after taken.placed
    (subst (λ ps. Reports (StatusReport (Writes (trees_script items file asked.name.now trees (kind_asked asked.question) (map plain_placed ps)))) status (g.K.Sink.written c.args.sink.now) after) c.deref.ensures.value from_start)

pub returns-in-Err-take_trees-clause-report : goal.returns-in-Err-take_trees-clause-report
returns-in-Err-take_trees-clause-report g c =
    let asked = c.args.asked in
    let items = plain_program c.args.checked.program in
    let signature = plain_signature c.in-Ok-type_of_trees.signature.now in
    let of = subst (λ n. signature ≡ input_type items (named_x n)) c.in-Ok.ensures c.in-Ok-type_of_trees.ensures.of in
    let named = subst (IsNameOf items (kind_asked asked.question)) c.in-Ok.ensures c.in-Ok-type_of_trees.ensures.named in
    trees_refused asked.file.now asked.name.now asked.trees.now (kind_asked asked.question) (g.T.TextSource.held c.args.texts.now asked.trees.now) items signature of named c.in-Err-take_trees.status (g.K.Sink.written c.args.sink.now) (g.K.Sink.written c.take_trees.new.sink) c.in-Err-take_trees.ensures.report
