use Rattle.std.proofs.Common.{◌≡◌, All, map, take, drop}
use Rattle.sttr_core.specs.Machine.{transducer_of}
use Rattle.sttr_core.specs.Terms.{plain_term}
use Rattle.sttr_apply.specs.Calls.{calls_each, uses_in, asks_in}
use Rattle.sttr_apply.specs.Solve.{IsEntry}
use Rattle.sttr_apply.specs.Tables.{IsTable, HasUses, lists_in}
use Rattle.sttr_apply.proofs.scene.Scene.entries.Given as goal

abbrev pub invariant-asks : goal.invariant-asks
invariant-asks g l = record {
  at : l.i ≡ l.ask-index;
  entries : All (IsEntry (transducer_of g.T.Theory.atom_holds g.T.Labels.make l.self.sttr.now) g.T.Theory.label_of g.T.Value.Ord.cmp l.place.tree.now) l.entries.items;
  uses : uses_in l.entries.items ≡ asks_in (take l.ask-index l.asks);
  table : IsTable g.T.Theory.label_of g.T.Value.Ord.cmp (transducer_of g.T.Theory.atom_holds g.T.Labels.make l.self.sttr.now) l.place.tree.now (lists_in l.table.items);
  has : HasUses (lists_in l.table.items) (λ q k. calls_each q k (map (λ those. map (λ t. plain_term t.now) those.items) (drop l.i l.lists)));
}
