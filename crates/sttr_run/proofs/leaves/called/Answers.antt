use Rattle.std.proofs.Common.{◌≡◌, ◌∷◌, ◌++◌, [], Some, map, ap, ◌∙◌}
use Rattle.label_core.specs.Formula.{plain_formula}
use Rattle.model_sttr.specs.Terms.{on}
use Rattle.model_sttr.specs.Transducer.{run}
use Rattle.sttr_run.specs.Leaves.{IsLeaf}
use Rattle.sttr_run.specs.declared.drafts.Draft.{Draft}
use Rattle.sttr_run.specs.Plain.{plain_head, plain_way_term}
use Rattle.sttr_run.specs.declared.triples.Head.TheVariants.{Run}
use Rattle.sttr_run.specs.declared.triples.WayTerm.TheVariants.{Call}
use Rattle.sttr_run.proofs.Asking.{none_asked, ok_map}
use Rattle.sttr_run.proofs.leaves.called.Goals as goal

pub returns : goal.returns
returns g c =
    let y : Draft g.row.A.Denot g.row.M.Denot = record { guards = c.new-guards.result; demands = c.new-demands.result; terms = c.push.new.self } in
    ok_map (λ drafts. drafts.items ≡ y ∷ []) (λ drafts. IsLeaf c.args.child [] (on (record { first = run c.args.state; all = c.args.all.now.states.items; second = Some (plain_head c.args.head) }) c.args.child ∷ []) drafts.items) c.alone.result
    (λ drafts is. (
      y,
      is,
      record {
        no_guards = ap (map plain_formula) c.new-guards.ensures.items;
        asks = none_asked c.args.child c.new-demands.result.items c.new-demands.ensures.items;
        same_terms = ap (map plain_way_term) (c.in_ok-push.ensures.items ∙ ap (λ xs. xs ++ Call (record { first = Run c.args.state; all = c.in_ok-from_slice.field-0; second = Some c.args.head }) c.args.child ∷ []) c.new-terms.ensures.items)
            ∙ ap (λ all. on (record { first = run c.args.state; all = all; second = Some (plain_head c.args.head) }) c.args.child ∷ []) (c.in_ok-from_slice.ensures.items ∙ c.as_slice.ensures.states);
      },
    )) c.alone.ensures
