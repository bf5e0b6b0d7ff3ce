use Rattle.std.proofs.Common.{◌≡◌, All, map, take}
use Rattle.model_tree.specs.Tree.{relabel}
use Rattle.model_sttr.specs.Terms.{with_maps}
use Rattle.model_sttr.specs.Transducer.{out_rules}
use Rattle.sta_core.specs.Sta.{automaton_of}
use Rattle.sttr_core.specs.Fits.{EveryMap}
use Rattle.sttr_core.specs.Machine.{transducer_of}
use Rattle.sttr_core.specs.Terms.{plain_term}
use Rattle.apply_laws.specs.Reached.{terms_of}
use Rattle.sttr_apply.proofs.scene.Scene.all_terms.Given as goal

abbrev pub invariant-asks : goal.invariant-asks
invariant-asks g l = record {
  terms : map (λ those. map (λ t. with_maps g.T.Labels.make (plain_term t.now)) those.items) l.lists.items ≡ map (λ a. terms_of (automaton_of g.T.Theory.atom_holds l.self.sttr.now.looks) (relabel g.T.Theory.label_of l.tree) (out_rules (transducer_of g.T.Theory.atom_holds g.T.Labels.make l.self.sttr.now) a.state)) (take l.ask-index l.asks);
  maps : All (λ those. All (λ t. EveryMap (g.T.Labels.map_fits l.self.theory.now) (plain_term t.now)) those.items) l.lists.items;
}
