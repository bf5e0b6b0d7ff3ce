use Rattle.std.proofs.Common.{◌≡◌, ◌∷◌, [], map, ap}
use Rattle.label_core.specs.Formula.{plain_formula}
use Rattle.sttr_run.specs.Leaves.{IsLeaf}
use Rattle.sttr_run.specs.Plain.{plain_way_term}
use Rattle.sttr_run.proofs.Asking.{none_asked, ok_map}
use Rattle.sttr_run.proofs.leaves.plain.Goals as goal

pub returns : goal.returns
returns g c =
    ok_map (λ drafts. drafts.items ≡ c.plain-draft.result ∷ []) (λ drafts. IsLeaf 0 [] [] drafts.items) c.alone.result
    (λ drafts is. (c.plain-draft.result, is, record { no_guards = ap (map plain_formula) c.plain-draft.ensures.guards; asks = none_asked 0 c.plain-draft.result.demands.items c.plain-draft.ensures.demands; same_terms = ap (map plain_way_term) c.plain-draft.ensures.terms })) c.alone.ensures
