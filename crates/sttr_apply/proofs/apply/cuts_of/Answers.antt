use Rattle.std.proofs.Common.{◌++◌, ◌∷◌, [], map, sym, ap, ◌∙◌}
use Rattle.std.proofs.lemmas.Iterator.Adapters.{YieldsList-from_vec}
use Rattle.std.proofs.lemmas.Iterator.Consumers.{YieldsList-end}
use Rattle.std.proofs.lemmas.List.{map-append, map-id}
use Rattle.fast_cut.specs.Cuts.{plain_cut}
use Rattle.sttr_apply.specs.Plain.{out_cut}
use Rattle.sttr_apply.proofs.apply.cuts_of.Goals as goal

pub outs-preserved : goal.outs-preserved
outs-preserved g c =
    ap (map plain_cut) c.in_ok-push.ensures.items ∙ (map-append plain_cut c.outs.cuts.items (c.in-Some-out.out.cut ∷ [])
    ∙ (ap (λ xs. xs ++ plain_cut c.in-Some-out.out.cut ∷ []) c.outs.invariant ∙ sym (map-append out_cut c.outs.yielded (c.in-Some-out.out ∷ []))))

pub returns-clause-cuts : goal.returns-clause-cuts
returns-clause-cuts g c =
    let end = YieldsList-end (YieldsList-from_vec c.args.listing.outs.items c.into_iter-out-iterator.ensures.into_iter_gives.0 (c.into_iter-out-iterator.ensures.into_iter_gives.1 ∙ c.args.listing.outs.ok.0)) c.outs.yielded c.outs.out-iterator c.outs.yielded_by c.next.result c.next.new.self c.in-None-out.is c.next.ensures.steps in
    c.outs.invariant ∙ ap (map out_cut) (sym (map-id c.outs.yielded) ∙ end.0)
