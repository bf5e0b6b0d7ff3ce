use Rattle.std.proofs.Common.{◌++◌, ◌∷◌, [], ap, sym, ◌∙◌}
use Rattle.std.proofs.lemmas.List.{map-append, map-id}
use Rattle.std.proofs.lemmas.Iterator.Adapters.{YieldsList-from_vec}
use Rattle.std.proofs.lemmas.Iterator.Consumers.{YieldsList-end}
use Rattle.label_split.specs.Noted.{rows_of}
use Rattle.std.proofs.lemmas.Result.{IfOk-from_err}
use Rattle.label_split.proofs.rows.without_notes.Goals as goal

pub loop-one-init : goal.loop-one-init
loop-one-init g c = c.new-rows.ensures.items

pub loop-one-preserved : goal.loop-one-preserved
loop-one-preserved g c = c.in_ok-push.ensures.items ∙ ap (λ rows. rows ++ c.in-Some.one.row ∷ []) c.loop-one.invariant ∙ sym (map-append (λ n. n.row) c.loop-one.yielded (c.in-Some.one ∷ []))

pub returns-in_err-push : goal.returns-in_err-push
returns-in_err-push g c = IfOk-from_err c.from_residual.result _ c.from_residual.ensures.0

pub returns : goal.returns
returns g c =
    let end = YieldsList-end (YieldsList-from_vec c.args.noted.items c.into_iter-one-iterator.ensures.into_iter_gives.0 (c.into_iter-one-iterator.ensures.into_iter_gives.1 ∙ c.args.noted.ok.0)) c.loop-one.yielded c.loop-one.one-iterator c.loop-one.yielded_by c.next.result c.next.new.self c.in-None.is c.next.ensures.steps in
    c.loop-one.invariant ∙ ap rows_of (sym (map-id c.loop-one.yielded) ∙ end.0)
