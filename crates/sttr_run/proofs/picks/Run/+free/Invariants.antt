use Rattle.std.proofs.Common.{◌+◌, ◌*◌, ◌≤◌, length, drop, map, false, All}
use Rattle.std.specs.Option.{option_map}
use Rattle.model_sttr.specs.Terms.{with_maps}
use Rattle.sttr_core.specs.Machine.{transducer_of}
use Rattle.sttr_core.specs.Terms.{plain_term}
use Rattle.sttr_theory.specs.Ways.{rest_ways}
use Rattle.sttr_run.specs.Drafts.{no_terms, parts_of, Covers}
use Rattle.sttr_run.specs.Found.{DraftStands, AreWanted, AreMoreWanted, used_by, meant_parts}
use Rattle.sttr_run.specs.Plain.{plain_second, plain_triple}
use Rattle.sttr_run.proofs.Popping.{PickedSoFar}
use Rattle.sttr_run.proofs.RowWays.{shift}
use Rattle.sttr_run.proofs.Weights.{weight, weights}
use Rattle.sttr_run.proofs.picks.Run.+free.Given as goal

abbrev pub decreases-free : goal.decreases-free
decreases-free g l = 3 * weight (plain_term l.term.now)

abbrev pub decreases-free_each : goal.decreases-free_each
decreases-free_each g l = 3 * weights (map plain_term l.node.now.parts.now) + 2

abbrev pub decreases-rest : goal.decreases-rest
decreases-rest g l = 3 * weights (map plain_term l.node.now.parts.now) + 1

abbrev pub invariant-free_each-picks : goal.invariant-free_each-picks
invariant-free_each-picks g l = record {
  found : PickedSoFar g.T.Theory.atom_holds g.T.Labels.make (g.T.Theory.meaning l.self.theory.now).has no_terms (λ t E. rest_ways (transducer_of g.T.Theory.atom_holds g.T.Labels.make (plain_second l.self.second.now)) (λ j. false) (meant_parts g.T.Theory.atom_holds g.T.Labels.make (g.T.Theory.meaning l.self.theory.now).has (plain_second l.self.second.now) (map plain_term l.node.parts.now)) E) l.fn.picks.items l.picks.items l.found.items;
  made : All (DraftStands g.T.Map.PartialEq.eq g.T.Labels.is_put g.T.Labels.is_chained (g.T.Theory.atom_fits l.self.theory.now) (g.T.Labels.map_fits l.self.theory.now) g.T.Labels.map_makes (plain_second l.self.second.now) (plain_term l.self.term.now) (plain_triple l.self.triple.now).second) l.found.items;
}

abbrev pub decreases-free_each-picks : goal.decreases-free_each-picks
decreases-free_each-picks g l = length l.picks.items

abbrev pub invariant-rest-parts : goal.invariant-rest-parts
invariant-rest-parts g l = record {
  low : l.left ≤ length l.node.parts.now;
  found : Covers g.T.Theory.atom_holds g.T.Labels.make (g.T.Theory.meaning l.self.theory.now).has no_terms (AreWanted g.T.Theory.atom_holds g.T.Labels.make (g.T.Theory.meaning l.self.theory.now).has (plain_second l.self.second.now) (map plain_term l.node.parts.now) (map (λ d. map (λ s. s.items) d.now) l.demands)) (AreMoreWanted g.T.Theory.atom_holds g.T.Labels.make (g.T.Theory.meaning l.self.theory.now).has (plain_second l.self.second.now) (map plain_term l.node.parts.now) (map (λ d. map (λ s. s.items) d.now) l.demands))
      (λ E. rest_ways (transducer_of g.T.Theory.atom_holds g.T.Labels.make (plain_second l.self.second.now)) (shift l.left (used_by (option_map (with_maps g.T.Labels.make) (option_map (λ t. plain_term t.now) l.term)))) (parts_of (map (with_maps g.T.Labels.make) (drop l.left (map plain_term l.node.parts.now)))) (shift l.left E)) l.ways.items;
  made : All (DraftStands g.T.Map.PartialEq.eq g.T.Labels.is_put g.T.Labels.is_chained (g.T.Theory.atom_fits l.self.theory.now) (g.T.Labels.map_fits l.self.theory.now) g.T.Labels.map_makes (plain_second l.self.second.now) (plain_term l.self.term.now) (plain_triple l.self.triple.now).second) l.ways.items;
}

abbrev pub decreases-rest-parts : goal.decreases-rest-parts
decreases-rest-parts g l = l.left
