use Rattle.std.proofs.Common.{ℕ, ◌≡◌, ◌<◌, length, get_or}
use Rattle.model_sta.specs.Sets.{step}
use Rattle.model_sta.specs.Least.{rows_at}
use Rattle.sta_classes.specs.Rules.{plain_rules, meaning_of}
use Rattle.sta_classes.specs.Rows.{founds}
use Rattle.sta_classes.specs.Pending.{IsBetter, IsMet}
use Rattle.sta_classes.specs.Searched.{IsSound}
use Rattle.sta_classes.specs.declared.splits.Told.{Told}
use Rattle.sta_classes.proofs.search.Search.open.Given as goal

abbrev pub invariant-labels : goal.invariant-labels
invariant-labels g l = record {
  sound : IsSound l.self.ranks.now (g.T.Theory.meaning l.self.theory.now).has (g.T.Theory.meaning l.self.theory.now).keeps (meaning_of g.T.Theory.atom_holds (plain_rules l.self.rules.now)) g.T.Theory.label_of l.known.classes.items l.pending;
  better : IsBetter l.initial.pending l.pending;
  met : (i : ℕ) (r : Told g.row.T-Value.Denot) → i < l.label-index → i < length l.label-items → get_or l.label-items i r ≡ r
      → IsMet l.pending (step (meaning_of g.T.Theory.atom_holds (plain_rules l.self.rules.now)) l.constructor (g.T.Theory.label_of r.value) (rows_at (founds g.T.Theory.label_of l.known.classes.items) l.children)) l.nodes;
}
