use Rattle.std.proofs.Common.{◌+◌, ◌*◌, ◌≤◌, length, drop, map, All, None}
use Rattle.std.specs.Option.{option_map}
use Rattle.model_sttr.specs.Terms.{with_maps}
use Rattle.sttr_core.specs.Machine.{transducer_of}
use Rattle.sttr_core.specs.Terms.{plain_term}
use Rattle.sttr_theory.specs.Built.{kept}
use Rattle.sttr_theory.specs.Ways.{over_parts, gives_at}
use Rattle.sttr_run.specs.Drafts.{only, list_of, Covers}
use Rattle.sttr_run.specs.Found.{DraftStands, AreWanted, AreMoreWanted, AreOver, meant_parts, pick_ways}
use Rattle.sttr_run.specs.Plain.{plain_second, plain_triple}
use Rattle.sttr_run.proofs.Measure.{total, scaled}
use Rattle.sttr_run.proofs.Popping.{PickedSoFar}
use Rattle.sttr_run.proofs.Weights.{weight, weights}
use Rattle.sttr_run.proofs.picks.Run.+gives.Given as goal

abbrev pub decreases-gives : goal.decreases-gives
decreases-gives g l = scaled (plain_second l.self.now.second.now) (weight (plain_term l.term.now))

abbrev pub decreases-keep_each : goal.decreases-keep_each
decreases-keep_each g l = scaled (plain_second l.self.now.second.now) (weights (map plain_term l.node.now.parts.now)) + 3

abbrev pub decreases-run_each : goal.decreases-run_each
decreases-run_each g l = scaled (plain_second l.self.now.second.now) (weights (map plain_term l.node.now.parts.now)) + (2 * total (plain_second l.self.now.second.now) + 4)

abbrev pub decreases-kept : goal.decreases-kept
decreases-kept g l = scaled (plain_second l.self.now.second.now) (weights (map plain_term l.node.now.parts.now)) + 2

abbrev pub decreases-over : goal.decreases-over
decreases-over g l = scaled (plain_second l.self.now.second.now) (weights (map plain_term l.node.now.parts.now)) + (2 * weight (plain_term l.term.now) + 2)

abbrev pub decreases-over_each : goal.decreases-over_each
decreases-over_each g l = scaled (plain_second l.self.now.second.now) (weights (map plain_term l.node.now.parts.now)) + (2 * weights (map plain_term l.terms.now) + 3)

abbrev pub decreases-at : goal.decreases-at
decreases-at g l = scaled (plain_second l.self.now.second.now) (weights (map plain_term l.node.now.parts.now)) + 1

abbrev pub invariant-keep_each-picks : goal.invariant-keep_each-picks
invariant-keep_each-picks g l = record {
  found : PickedSoFar g.T.Theory.atom_holds g.T.Labels.make (g.T.Theory.meaning l.self.theory.now).has only (λ t E. pick_ways (transducer_of g.T.Theory.atom_holds g.T.Labels.make (plain_second l.self.second.now)) l.node.constructor (g.T.Labels.make l.node.map.now) (meant_parts g.T.Theory.atom_holds g.T.Labels.make (g.T.Theory.meaning l.self.theory.now).has (plain_second l.self.second.now) (map plain_term l.node.parts.now)) None E) l.fn.picks.items l.picks.items l.found.items;
  made : All (DraftStands g.T.Map.PartialEq.eq g.T.Labels.is_put g.T.Labels.is_chained (g.T.Theory.atom_fits l.self.theory.now) (g.T.Labels.map_fits l.self.theory.now) g.T.Labels.map_makes (plain_second l.self.second.now) (plain_term l.self.term.now) (plain_triple l.self.triple.now).second) l.found.items;
}

abbrev pub decreases-keep_each-picks : goal.decreases-keep_each-picks
decreases-keep_each-picks g l = length l.picks.items

abbrev pub invariant-run_each-picks : goal.invariant-run_each-picks
invariant-run_each-picks g l = record {
  found : PickedSoFar g.T.Theory.atom_holds g.T.Labels.make (g.T.Theory.meaning l.self.theory.now).has only (λ t E. pick_ways (transducer_of g.T.Theory.atom_holds g.T.Labels.make (plain_second l.self.second.now)) l.node.constructor (g.T.Labels.make l.node.map.now) (meant_parts g.T.Theory.atom_holds g.T.Labels.make (g.T.Theory.meaning l.self.theory.now).has (plain_second l.self.second.now) (map plain_term l.node.parts.now)) (option_map (with_maps g.T.Labels.make) t) E) l.fn.picks.items l.picks.items l.found.items;
  made : All (DraftStands g.T.Map.PartialEq.eq g.T.Labels.is_put g.T.Labels.is_chained (g.T.Theory.atom_fits l.self.theory.now) (g.T.Labels.map_fits l.self.theory.now) g.T.Labels.map_makes (plain_second l.self.second.now) (plain_term l.self.term.now) (plain_triple l.self.triple.now).second) l.found.items;
}

abbrev pub decreases-run_each-picks : goal.decreases-run_each-picks
decreases-run_each-picks g l = length l.picks.items

abbrev pub invariant-kept-parts : goal.invariant-kept-parts
invariant-kept-parts g l = record {
  low : l.left ≤ length l.node.parts.now;
  found : Covers g.T.Theory.atom_holds g.T.Labels.make (g.T.Theory.meaning l.self.theory.now).has list_of (AreWanted g.T.Theory.atom_holds g.T.Labels.make (g.T.Theory.meaning l.self.theory.now).has (plain_second l.self.second.now) (map plain_term l.node.parts.now) (map (λ d. map (λ s. s.items) d.now) l.demands)) (AreMoreWanted g.T.Theory.atom_holds g.T.Labels.make (g.T.Theory.meaning l.self.theory.now).has (plain_second l.self.second.now) (map plain_term l.node.parts.now) (map (λ d. map (λ s. s.items) d.now) l.demands)) (λ E. over_parts (g.T.Labels.make l.node.map.now) (λ h j. gives_at (transducer_of g.T.Theory.atom_holds g.T.Labels.make (plain_second l.self.second.now)) j (meant_parts g.T.Theory.atom_holds g.T.Labels.make (g.T.Theory.meaning l.self.theory.now).has (plain_second l.self.second.now) (map plain_term l.node.parts.now)) (E j) h) (kept l.left (length (drop l.left (map plain_term l.node.parts.now))))) l.ways.items;
  made : All (DraftStands g.T.Map.PartialEq.eq g.T.Labels.is_put g.T.Labels.is_chained (g.T.Theory.atom_fits l.self.theory.now) (g.T.Labels.map_fits l.self.theory.now) g.T.Labels.map_makes (plain_second l.self.second.now) (plain_term l.self.term.now) (plain_triple l.self.triple.now).second) l.ways.items;
}

abbrev pub decreases-kept-parts : goal.decreases-kept-parts
decreases-kept-parts g l = l.left

abbrev pub invariant-over_each-terms : goal.invariant-over_each-terms
invariant-over_each-terms g l = record {
  low : l.left ≤ length l.terms;
  found : AreOver g.T.Theory.atom_holds g.T.Labels.make (g.T.Theory.meaning l.self.theory.now).has (plain_second l.self.second.now) (map plain_term l.node.parts.now) (map (λ d. map (λ s. s.items) d.now) l.demands) l.node.map.now (drop l.left (map plain_term l.terms)) l.ways.items;
  made : All (DraftStands g.T.Map.PartialEq.eq g.T.Labels.is_put g.T.Labels.is_chained (g.T.Theory.atom_fits l.self.theory.now) (g.T.Labels.map_fits l.self.theory.now) g.T.Labels.map_makes (plain_second l.self.second.now) (plain_term l.self.term.now) (plain_triple l.self.triple.now).second) l.ways.items;
}

abbrev pub decreases-over_each-terms : goal.decreases-over_each-terms
decreases-over_each-terms g l = l.left
