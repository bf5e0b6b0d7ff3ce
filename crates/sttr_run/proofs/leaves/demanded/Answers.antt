use Rattle.std.proofs.Common.{◌≡◌, ◌∷◌, [], map, ap}
use Rattle.label_core.specs.Formula.{plain_formula}
use Rattle.sttr_theory.specs.Triples.{asked_by}
use Rattle.sttr_run.specs.Leaves.{IsLeaf}
use Rattle.sttr_run.specs.declared.drafts.Draft.{Draft}
use Rattle.sttr_run.specs.Plain.{plain_head, plain_way_term}
use Rattle.sttr_run.proofs.Asking.{ok_map}
use Rattle.sttr_run.proofs.leaves.demanded.Goals as goal

pub returns : goal.returns
returns g c =
    let y : Draft g.row.A.Denot g.row.M.Denot = record { guards = c.new-guards.result; demands = c.in_ok-demands.demands; terms = c.new-terms.result } in
    ok_map (λ drafts. drafts.items ≡ y ∷ []) (λ drafts. IsLeaf c.args.child (asked_by (plain_head c.args.first) c.args.all.now.states.items) [] drafts.items) c.alone.result
    (λ drafts is. (
      y,
      is,
      record {
        no_guards = ap (map plain_formula) c.new-guards.ensures.items;
        asks = c.in_ok-demands.ensures;
        same_terms = ap (map plain_way_term) c.new-terms.ensures.items;
      },
    )) c.alone.ensures
