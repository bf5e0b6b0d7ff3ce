use Rattle.std.proofs.Common.{◌≤◌, suc, length, map, drop, take}
use Rattle.model_tree.specs.Tree.{label_of, children_of}
use Rattle.model_sttr.specs.Terms.{with_maps}
use Rattle.sttr_core.specs.Machine.{transducer_of}
use Rattle.sttr_core.specs.Terms.{plain_term}
use Rattle.apply_laws.specs.Lists.{sum_of}
use Rattle.apply_laws.specs.Terms.{ArePartsFound}
use Rattle.sttr_apply.specs.Calls.{calls_of}
use Rattle.sttr_apply.specs.Labels.{keeps, Outside}
use Rattle.sttr_apply.specs.Plain.{rows_found}
use Rattle.sttr_apply.specs.Tables.{IsTable, HasUses, KeepsUses, lists_in, parts_in}
use Rattle.sttr_apply.proofs.Gathered.{weight}
use Rattle.sttr_apply.proofs.scene.Scene.+term.Given as goal

abbrev pub invariant-parts_found-parts : goal.invariant-parts_found-parts
invariant-parts_found-parts g l = record {
  low : l.left ≤ length l.parts;
  found : ArePartsFound g.T.Theory.label_of g.T.Value.Ord.cmp keeps Outside (transducer_of g.T.Theory.atom_holds g.T.Labels.make l.self.sttr.now) (children_of l.place.tree.now) (g.T.Theory.label_of (label_of l.place.tree.now)) (parts_in (map (λ p. with_maps g.T.Labels.make (plain_term p)) (drop l.left l.parts))) (rows_found l.found);
  table : IsTable g.T.Theory.label_of g.T.Value.Ord.cmp (transducer_of g.T.Theory.atom_holds g.T.Labels.make l.self.sttr.now) l.place.tree.now (lists_in l.table.items);
  uses : HasUses (lists_in l.table.items) (λ q k. calls_of q k (map plain_term (take l.left l.parts)));
  keeps : KeepsUses (lists_in l.fn.table.items) (lists_in l.table.items) (λ q k. calls_of q k (map plain_term (drop l.left l.parts)));
}

abbrev pub decreases-parts_found-parts : goal.decreases-parts_found-parts
decreases-parts_found-parts g l = l.left

abbrev pub decreases-term_found : goal.decreases-term_found
decreases-term_found g l = weight (plain_term l.term.now)

abbrev pub decreases-parts_found : goal.decreases-parts_found
decreases-parts_found g l = suc (sum_of weight (map plain_term l.parts.now))
