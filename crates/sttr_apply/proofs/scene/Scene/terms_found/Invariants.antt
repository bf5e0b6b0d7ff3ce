use Rattle.std.proofs.Common.{map, take, drop}
use Rattle.model_tree.specs.Tree.{label_of, children_of}
use Rattle.model_sttr.specs.Terms.{with_maps}
use Rattle.sttr_core.specs.Machine.{transducer_of}
use Rattle.sttr_core.specs.Terms.{plain_term}
use Rattle.apply_laws.specs.Found.{listed}
use Rattle.apply_laws.specs.Terms.{AreTermsFound}
use Rattle.sttr_apply.specs.Calls.{calls_of}
use Rattle.sttr_apply.specs.Labels.{keeps, Outside}
use Rattle.sttr_apply.specs.Plain.{out_cut}
use Rattle.sttr_apply.specs.Tables.{IsTable, HasUses, KeepsUses, lists_in}
use Rattle.sttr_apply.proofs.scene.Scene.terms_found.Given as goal

abbrev pub invariant-terms : goal.invariant-terms
invariant-terms g l = record {
  found : AreTermsFound g.T.Theory.label_of g.T.Value.Ord.cmp keeps Outside (transducer_of g.T.Theory.atom_holds g.T.Labels.make l.self.sttr.now) (children_of l.place.tree.now) (g.T.Theory.label_of (label_of l.place.tree.now)) (map (λ t. with_maps g.T.Labels.make (plain_term t.now)) (take l.term-index l.terms)) (listed (map out_cut l.listing.outs.items) l.listing.far);
  table : IsTable g.T.Theory.label_of g.T.Value.Ord.cmp (transducer_of g.T.Theory.atom_holds g.T.Labels.make l.self.sttr.now) l.place.tree.now (lists_in l.table.items);
  uses : HasUses (lists_in l.table.items) (λ q k. calls_of q k (map (λ t. plain_term t.now) (drop l.term-index l.terms)));
  keeps : KeepsUses (lists_in l.fn.table.items) (lists_in l.table.items) (λ q k. calls_of q k (map (λ t. plain_term t.now) (take l.term-index l.terms)));
}
