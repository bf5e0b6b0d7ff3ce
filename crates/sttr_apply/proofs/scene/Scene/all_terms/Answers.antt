use Rattle.std.proofs.Common.{◌++◌, ◌∷◌, [], get_or, map, sym, ap, ap₂, ◌∙◌}
use Rattle.std.proofs.lemmas.List.{map-append, take_all}
use Rattle.model_tree.specs.Tree.{relabel}
use Rattle.model_sttr.specs.Terms.{with_maps}
use Rattle.model_sttr.specs.Transducer.{out_rules}
use Rattle.sta_core.specs.Sta.{automaton_of}
use Rattle.sttr_core.specs.Fits.{EveryMap}
use Rattle.sttr_core.specs.Machine.{transducer_of}
use Rattle.sttr_core.specs.Terms.{plain_term}
use Rattle.std.specs.List.{All}
use Rattle.apply_laws.specs.Reached.{terms_of}
use Rattle.model_sta.proofs.Reached.{same_default}
use Rattle.sttr_apply.proofs.Placed.{all_push}
use Rattle.sttr_apply.proofs.Gathered.{one_taken}
use Rattle.sttr_apply.proofs.scene.Scene.all_terms.Goals as goal

pub asks-preserved : goal.asks-preserved
asks-preserved g c = record {
  terms = ap (map (λ those. map (λ t. with_maps g.T.Labels.make (plain_term t.now)) those.items)) c.in_ok-push.ensures.items
      ∙ (map-append (λ those. map (λ t. with_maps g.T.Labels.make (plain_term t.now)) those.items) c.asks.lists.items _
      ∙ (ap₂ (λ xs y. xs ++ y ∷ []) c.asks.invariant.terms c.in_ok-terms_at.ensures.terms
      ∙ sym (one_taken (λ a. terms_of (automaton_of g.T.Theory.atom_holds c.args.self.now.sttr.now.looks) (relabel g.T.Theory.label_of c.args.tree.now) (out_rules (transducer_of g.T.Theory.atom_holds g.T.Labels.make c.args.self.now.sttr.now) a.state)) c.args.asks.now c.asks.ask-index (get_or c.args.asks.now c.asks.ask-index (record { state = 0; uses = 0 })) c.asks-test.true (same_default c.args.asks.now c.asks.ask-index (record { state = 0; uses = 0 }) (get_or c.args.asks.now c.asks.ask-index (record { state = 0; uses = 0 })) c.asks-test.true))));
  maps = all_push (λ those. All (λ t. EveryMap (g.T.Labels.map_fits c.args.self.now.theory.now) (plain_term t.now)) those.items) c.asks.lists.items _ _ c.asks.invariant.maps c.in_ok-terms_at.ensures.maps c.in_ok-push.ensures.items;
}

pub returns-clause-terms : goal.returns-clause-terms
returns-clause-terms g c = c.asks.invariant.terms ∙ ap (map (λ a. terms_of (automaton_of g.T.Theory.atom_holds c.args.self.now.sttr.now.looks) (relabel g.T.Theory.label_of c.args.tree.now) (out_rules (transducer_of g.T.Theory.atom_holds g.T.Labels.make c.args.self.now.sttr.now) a.state))) (take_all c.asks.ask-index c.args.asks.now c.asks-test.false)
