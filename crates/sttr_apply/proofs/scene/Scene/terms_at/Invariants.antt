use Rattle.std.proofs.Common.{◌≡◌, All, map, take}
use Rattle.model_tree.specs.Tree.{relabel}
use Rattle.model_sttr.specs.Terms.{with_maps}
use Rattle.sta_core.specs.Sta.{automaton_of}
use Rattle.sttr_core.specs.Fits.{EveryMap}
use Rattle.sttr_core.specs.Machine.{plain_out}
use Rattle.sttr_core.specs.Terms.{plain_term}
use Rattle.sttr_core.proofs.Meaning.{meaning_of}
use Rattle.apply_laws.specs.Reached.{terms_of}
use Rattle.sttr_apply.proofs.scene.Scene.terms_at.Given as goal

abbrev pub invariant-rules : goal.invariant-rules
invariant-rules g l = record {
  terms : map (λ t. with_maps g.T.Labels.make (plain_term t.now)) l.terms.items
      ≡ terms_of (automaton_of g.T.Theory.atom_holds l.self.sttr.now.looks) (relabel g.T.Theory.label_of l.tree) (map (λ r. meaning_of g.T.Theory.atom_holds g.T.Labels.make (plain_out r)) (take l.rule-index l.rule-items));
  maps : All (λ t. EveryMap (g.T.Labels.map_fits l.self.theory.now) (plain_term t.now)) l.terms.items;
}
