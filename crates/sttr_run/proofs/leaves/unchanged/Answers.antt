use Rattle.std.proofs.Common.{◌≡◌, ◌∷◌, ◌++◌, [], Some, map, ap, subst, ◌∙◌}
use Rattle.label_core.specs.Formula.{plain_formula}
use Rattle.model_sttr.specs.Terms.{on}
use Rattle.model_sttr.specs.Transducer.{identity}
use Rattle.sttr_theory.specs.Triples.{asked_by}
use Rattle.sttr_run.specs.Leaves.{IsLeaf}
use Rattle.sttr_run.specs.declared.drafts.Draft.{Draft}
use Rattle.sttr_run.specs.Plain.{plain_head, plain_way_term}
use Rattle.sttr_run.specs.declared.triples.Head.TheVariants.{Same}
use Rattle.sttr_run.specs.declared.triples.WayTerm.TheVariants.{Call}
use Rattle.sttr_run.proofs.Asking.{AsksStates, ok_map}
use Rattle.sttr_run.proofs.leaves.unchanged.Goals as goal

pub returns : goal.returns
returns g c =
    let y : Draft g.row.A.Denot g.row.M.Denot = record { guards = c.new-guards.result; demands = c.in_ok-demands.demands; terms = c.push.new.self } in
    ok_map (λ drafts. drafts.items ≡ y ∷ []) (λ drafts. IsLeaf c.args.child (asked_by identity c.args.all.now.states.items) (on (record { first = identity; all = []; second = Some (plain_head c.args.head) }) c.args.child ∷ []) drafts.items) c.alone.result
    (λ drafts is. (
      y,
      is,
      record {
        no_guards = ap (map plain_formula) c.new-guards.ensures.items;
        asks = subst (AsksStates c.in_ok-demands.demands.items c.args.child) c.as_slice.ensures.states c.in_ok-demands.ensures;
        same_terms = ap (map plain_way_term) (c.in_ok-push.ensures.items ∙ ap (λ xs. xs ++ Call (record { first = Same; all = c.new.result; second = Some c.args.head }) c.args.child ∷ []) c.new-terms.ensures.items)
            ∙ ap (λ all. on (record { first = identity; all = all; second = Some (plain_head c.args.head) }) c.args.child ∷ []) c.new.ensures.items;
      },
    )) c.alone.ensures
