use Rattle.std.proofs.Common.{◌≡◌, ◌-◌, ◌<◌, ◌++◌, ◌∷◌, [], map, get_or, length, All, Some, None, suc, refl, inr, subst, sym, ap, arith}
use Rattle.std.specs.Option.{option_map}
use Rattle.std.proofs.lemmas.List.{nil_from_length}
use Rattle.std.proofs.lemmas.List.Elements.{All-nil}
use Rattle.label_core.specs.Formula.{plain_formula}
use Rattle.model_sttr.specs.Terms.{Occurs, with_maps}
use Rattle.model_sttr.specs.Transducer.{identity, run}
use Rattle.sttr_core.specs.Machine.{transducer_of}
use Rattle.sttr_core.specs.Terms.{plain_term}
use Rattle.sttr_theory.specs.Lists.{SameStates}
use Rattle.sttr_theory.specs.Built.{kept as kept'}
use Rattle.sttr_theory.specs.Ways.{rest_ways, gives_ways, gives_at, over_term, over_parts, second_of, size, uses}
use Rattle.sttr_theory.proofs.Members.{to_mapped}
use Rattle.sttr_run.specs.Drafts.{AreAmong, AddsProducts, AreProducts, no_terms, only, parts_of, Covers}
use Rattle.sttr_run.specs.Found.{DraftStands, PickStands, MapStands, IsWithin, IsRest, AreWanted, AreMoreWanted, meant_parts, pick_ways, CoversPicks}
use Rattle.sttr_run.specs.Picks.{pick_demands}
use Rattle.sttr_run.specs.Plain.{plain_second, plain_triple, plain_head, plain_way_term}
use Rattle.sttr_run.proofs.LeafWays.{unchanged_covered, called_covered}
use Rattle.sttr_run.proofs.Made.{leaf_stands, no_maps, products_stand, guarded_stand, nodes_stand}
use Rattle.sttr_run.proofs.Members.{all_at, at_place, none_some}
use Rattle.sttr_run.proofs.Popping.{splits_start, splits_more, picked_end, picked_in}
use Rattle.sttr_run.proofs.RowWays.{picks_start, picks_more}
use Rattle.sttr_run.proofs.Weights.{weight, weights, node_weight, one_weight, node_in, node_meant, dropped, mapped_length, some_dropped, map_at}
use Rattle.std.proofs.Common.{IfOk, IsSome}
use Rattle.sttr_run.specs.Found.{IsGiven, IsOver, AreKept, MayRun, HeadMayRun, IsTermOf, chained}
use Rattle.sttr_run.specs.Runs.{OnTerm}
use Rattle.sttr_run.specs.Picks.{AreApplied}
use Rattle.sttr_run.proofs.Covering.{covers_pairs}
use Rattle.sttr_run.proofs.GivenWays.{given_kept, given_run}
use Rattle.sttr_run.proofs.Measure.{term_light, may_run, scaled_le, scaled_node}
use Rattle.sttr_run.proofs.RowWays.{at_found, at_nothing, OverFrom, over_start, over_more, KeptFrom, kept_start, kept_more, kept_end, covers_nodes}
use Rattle.sttr_run.proofs.Weights.{parts_run}
use Rattle.sttr_run.proofs.picks.Run.+gives.Goals as goal

pub at-gives-requires : goal.at-gives-requires
at-gives-requires g t c κs within =
    let before = c.decreases in
    let at = to_mapped plain_term c.args.node.now.parts.now c.in-Some.part.now (at_place c.args.node.now.parts.now c.args.child c.in-Some.part.now c.in-Some.ensures.lookup.3.0 c.in-Some.ensures.lookup.1) in
    let light = scaled_le (plain_second c.args.self.now.second.now) (weight (plain_term c.in-Some.part.now)) (weights (map plain_term c.args.node.now.parts.now)) (one_weight (map plain_term c.args.node.now.parts.now) (plain_term c.in-Some.part.now) at) in
    (omega (arith, before, light), (within.0, (within.1.0, (within.1.1.0, (within.1.1.1.0, (within.1.1.1.1, (c.requires.can, (all_at (IsWithin (plain_term c.args.self.now.term.now)) (map plain_term c.args.node.now.parts.now) (plain_term c.in-Some.part.now) c.requires.node.within at, c.requires.head))))))))

pub at-returns-in-None-clause-found : goal.at-returns-in-None-clause-found
at-returns-in-None-clause-found g t c = at_nothing g.T.Theory.atom_holds g.T.Labels.make (g.T.Theory.meaning c.args.self.now.theory.now).has g.T.Map.PartialEq.eq g.met.T.Labels.equal_maps (plain_second c.args.self.now.second.now) (map plain_term c.args.node.now.parts.now) (map (λ d. map (λ s. s.items) d.now) c.args.demands.now) c.args.child (plain_head c.args.head) c.new.result.items (omega (arith, c.in-None.ensures.lookup.3, mapped_length plain_term c.args.node.now.parts.now)) c.new.ensures.items

pub at-returns-in_ok-ways-in-Some-clause-found : goal.at-returns-in_ok-ways-in-Some-clause-found
at-returns-in_ok-ways-in-Some-clause-found g t c =
    let at = map_at plain_term c.args.node.now.parts.now c.args.child c.in-Some.part.now c.in-Some.ensures.lookup.3.0 c.in-Some.ensures.lookup.1 in
    at_found g.T.Theory.atom_holds g.T.Labels.make (g.T.Theory.meaning c.args.self.now.theory.now).has g.T.Map.PartialEq.eq g.met.T.Labels.equal_maps (plain_second c.args.self.now.second.now) (map plain_term c.args.node.now.parts.now) (map (λ d. map (λ s. s.items) d.now) c.args.demands.now) c.args.child (plain_term c.in-Some.part.now) (plain_head c.args.head) c.in_ok-all-in-Some.all.states.items c.in_ok-ways-in-Some.ways.items at.0 at.1 c.in_ok-all-in-Some.ensures c.in_ok-ways-in-Some.ensures.found

pub gives-keep_each-requires : goal.gives-keep_each-requires
gives-keep_each-requires g t c κs within =
    let before = c.decreases in
    let whole = scaled_node (plain_second c.args.self.now.second.now) (weight (plain_term c.args.term.now)) (weights (map plain_term c.deref.result.now)) (node_weight c.args.term.now c.in-Node.constructor c.in-Node.map c.in-Node.parts c.deref.result.now c.in-Node.is c.deref.ensures.value) in
    (omega (arith, before, whole), (within.0, (within.1.0, (within.1.1.0, (within.1.1.1.0, (within.1.1.1.1, (c.requires.can, (node_in (plain_term c.args.self.now.term.now) c.args.term.now c.in-Node.constructor c.in-Node.map c.in-Node.parts c.deref.result.now c.in-Node.is c.deref.ensures.value c.requires.within, (c.in_ok-picks-in-Node.ensures.stand, subst (λ h. HeadMayRun (plain_second c.args.self.now.second.now) (plain_triple c.args.self.now.triple.now).second (plain_head h)) c.in-Same-head.is c.requires.head)))))))))

pub gives-with_rule-requires-clause-stand : goal.gives-with_rule-requires-clause-stand
gives-with_rule-requires-clause-stand g t c = subst (All (PickStands g.T.Map.PartialEq.eq g.T.Labels.is_put g.T.Labels.is_chained (g.T.Theory.atom_fits c.args.self.now.theory.now) (g.T.Labels.map_fits c.args.self.now.theory.now) g.T.Labels.map_makes (plain_second c.args.self.now.second.now) (plain_term c.args.self.now.term.now) (plain_triple c.args.self.now.triple.now).second)) (sym c.deref-in-Run.ensures.value) c.in_ok-picks-in-Node.ensures.stand

pub gives-run_each-requires : goal.gives-run_each-requires
gives-run_each-requires g t c κs within =
    let before = c.decreases in
    let whole = scaled_node (plain_second c.args.self.now.second.now) (weight (plain_term c.args.term.now)) (weights (map plain_term c.deref.result.now)) (node_weight c.args.term.now c.in-Node.constructor c.in-Node.map c.in-Node.parts c.deref.result.now c.in-Node.is c.deref.ensures.value) in
    (omega (arith, before, whole), (within.0, (within.1.0, (within.1.1.0, (within.1.1.1.0, (within.1.1.1.1, (c.requires.can, (node_in (plain_term c.args.self.now.term.now) c.args.term.now c.in-Node.constructor c.in-Node.map c.in-Node.parts c.deref.result.now c.in-Node.is c.deref.ensures.value c.requires.within, (c.in_ok-picks-in-Run.ensures.stand, c.in_ok-picks-in-Run.ensures.terms)))))))))

pub gives-returns-in_ok-ways-in-Same-clause-found : goal.gives-returns-in_ok-ways-in-Same-clause-found
gives-returns-in_ok-ways-in-Same-clause-found g t c =
    subst (λ t. IsGiven g.T.Theory.atom_holds g.T.Labels.make (g.T.Theory.meaning c.args.self.now.theory.now).has (plain_second c.args.self.now.second.now) (plain_term t) c.args.all.now.states.items (plain_head c.args.head) c.in_ok-ways-in-Same.ways.items) (sym c.in-Same.is)
    (unchanged_covered g.T.Theory.atom_holds g.T.Labels.make (g.T.Theory.meaning c.args.self.now.theory.now).has c.args.all.now.states.items c.in-Same.child c.in_ok-ways-in-Same.ways.items (plain_head c.args.head) c.in_ok-ways-in-Same.ensures)

pub gives-returns-in_ok-ways-in-Call-clause-found : goal.gives-returns-in_ok-ways-in-Call-clause-found
gives-returns-in_ok-ways-in-Call-clause-found g t c =
    subst (λ t. IsGiven g.T.Theory.atom_holds g.T.Labels.make (g.T.Theory.meaning c.args.self.now.theory.now).has (plain_second c.args.self.now.second.now) (plain_term t) c.args.all.now.states.items (plain_head c.args.head) c.in_ok-ways-in-Call.ways.items) (sym c.in-Call.is)
    (called_covered g.T.Theory.atom_holds g.T.Labels.make (g.T.Theory.meaning c.args.self.now.theory.now).has c.args.all.now.states.items c.in-Call.child c.in_ok-ways-in-Call.ways.items c.in-Call.state (plain_head c.args.head) c.in_ok-ways-in-Call.ensures)

pub gives-returns-in_ok-ways-in-Same-head-clause-found : goal.gives-returns-in_ok-ways-in-Same-head-clause-found
gives-returns-in_ok-ways-in-Same-head-clause-found g t c =
    subst (λ h. IsGiven g.T.Theory.atom_holds g.T.Labels.make (g.T.Theory.meaning c.args.self.now.theory.now).has (plain_second c.args.self.now.second.now) (plain_term c.args.term.now) c.args.all.now.states.items (plain_head h) c.in_ok-ways-in-Same-head.ways.items) (sym c.in-Same-head.is)
    (subst (λ p. Covers g.T.Theory.atom_holds g.T.Labels.make (g.T.Theory.meaning c.args.self.now.theory.now).has only (SameStates c.args.all.now.states.items) (AreAmong c.args.all.now.states.items) (λ Z. gives_ways (transducer_of g.T.Theory.atom_holds g.T.Labels.make (plain_second c.args.self.now.second.now)) p Z identity) c.in_ok-ways-in-Same-head.ways.items) (sym (node_meant g.T.Labels.make c.args.term.now c.in-Node.constructor c.in-Node.map c.in-Node.parts c.deref.result.now c.in-Node.is c.deref.ensures.value))
    (given_kept g.T.Theory.atom_holds g.T.Labels.make (g.T.Theory.meaning c.args.self.now.theory.now).has (plain_second c.args.self.now.second.now) c.in-Node.constructor c.in-Node.map (meant_parts g.T.Theory.atom_holds g.T.Labels.make (g.T.Theory.meaning c.args.self.now.theory.now).has (plain_second c.args.self.now.second.now) (map plain_term c.deref.result.now)) c.args.all.now.states.items c.args.all.now.ascending c.in_ok-picks-in-Node.picks.items c.in_ok-picks-in-Node.ensures.picks c.in_ok-ways-in-Same-head.ways.items c.in_ok-ways-in-Same-head.ensures.found))

pub gives-returns-in_ok-ways-in-Run-clause-found : goal.gives-returns-in_ok-ways-in-Run-clause-found
gives-returns-in_ok-ways-in-Run-clause-found g t c =
    subst (λ h. IsGiven g.T.Theory.atom_holds g.T.Labels.make (g.T.Theory.meaning c.args.self.now.theory.now).has (plain_second c.args.self.now.second.now) (plain_term c.args.term.now) c.args.all.now.states.items (plain_head h) c.in_ok-ways-in-Run.ways.items) (sym c.in-Run.is)
    (subst (λ p. Covers g.T.Theory.atom_holds g.T.Labels.make (g.T.Theory.meaning c.args.self.now.theory.now).has only (SameStates c.args.all.now.states.items) (AreAmong c.args.all.now.states.items) (λ Z. gives_ways (transducer_of g.T.Theory.atom_holds g.T.Labels.make (plain_second c.args.self.now.second.now)) p Z (run c.in-Run.state)) c.in_ok-ways-in-Run.ways.items) (sym (node_meant g.T.Labels.make c.args.term.now c.in-Node.constructor c.in-Node.map c.in-Node.parts c.deref.result.now c.in-Node.is c.deref.ensures.value))
    (given_run g.T.Theory.atom_holds g.T.Labels.make (g.T.Theory.meaning c.args.self.now.theory.now).has (plain_second c.args.self.now.second.now) c.in-Node.constructor c.in-Node.map (meant_parts g.T.Theory.atom_holds g.T.Labels.make (g.T.Theory.meaning c.args.self.now.theory.now).has (plain_second c.args.self.now.second.now) (map plain_term c.deref.result.now)) c.args.all.now.states.items c.args.all.now.ascending c.in_ok-picks-in-Node.picks.items c.in_ok-picks-in-Node.ensures.picks c.in_ok-ways-in-Run.ways.items c.in-Run.state c.in_ok-picks-in-Run.picks.items
    (subst (λ xs. AreApplied g.T.Theory.atom_holds g.T.Labels.make (g.T.Theory.meaning c.args.self.now.theory.now).has c.in-Node.constructor c.in-Node.map (get_or (plain_second c.args.self.now.second.now).rules c.in-Run.state []) xs c.in_ok-picks-in-Run.picks.items) c.deref-in-Run.ensures.value c.in_ok-picks-in-Run.ensures.picks) c.in_ok-ways-in-Run.ensures.found))

pub keep_each-picks-init : goal.keep_each-picks-init
keep_each-picks-init g t c = record {
  found = ([], splits_start c.args.picks.items, subst (CoversPicks g.T.Theory.atom_holds g.T.Labels.make (g.T.Theory.meaning c.args.self.now.theory.now).has only (λ t E. pick_ways (transducer_of g.T.Theory.atom_holds g.T.Labels.make (plain_second c.args.self.now.second.now)) c.args.node.now.constructor (g.T.Labels.make c.args.node.now.map.now) (meant_parts g.T.Theory.atom_holds g.T.Labels.make (g.T.Theory.meaning c.args.self.now.theory.now).has (plain_second c.args.self.now.second.now) (map plain_term c.args.node.now.parts.now)) None E) []) (sym c.new-found.ensures.items) (picks_start g.T.Theory.atom_holds g.T.Labels.make (g.T.Theory.meaning c.args.self.now.theory.now).has g.T.Map.PartialEq.eq g.met.T.Labels.equal_maps only (λ t E. pick_ways (transducer_of g.T.Theory.atom_holds g.T.Labels.make (plain_second c.args.self.now.second.now)) c.args.node.now.constructor (g.T.Labels.make c.args.node.now.map.now) (meant_parts g.T.Theory.atom_holds g.T.Labels.make (g.T.Theory.meaning c.args.self.now.theory.now).has (plain_second c.args.self.now.second.now) (map plain_term c.args.node.now.parts.now)) None E)));
  made = subst (All (DraftStands g.T.Map.PartialEq.eq g.T.Labels.is_put g.T.Labels.is_chained (g.T.Theory.atom_fits c.args.self.now.theory.now) (g.T.Labels.map_fits c.args.self.now.theory.now) g.T.Labels.map_makes (plain_second c.args.self.now.second.now) (plain_term c.args.self.now.term.now) (plain_triple c.args.self.now.triple.now).second)) (sym c.new-found.ensures.items) (All-nil (DraftStands g.T.Map.PartialEq.eq g.T.Labels.is_put g.T.Labels.is_chained (g.T.Theory.atom_fits c.args.self.now.theory.now) (g.T.Labels.map_fits c.args.self.now.theory.now) g.T.Labels.map_makes (plain_second c.args.self.now.second.now) (plain_term c.args.self.now.term.now) (plain_triple c.args.self.now.triple.now).second));
}

pub keep_each-picks-preserved : goal.keep_each-picks-preserved
keep_each-picks-preserved g t c =
    let (first, gs, ds, ts, adds') = c.in_ok-guard.ensures in
    let (done, splits, covers) = c.picks.invariant.found in
    let adds = subst (λ ws. AddsProducts g.T.Map.PartialEq.eq first ws c.picks.found.items c.guard.new.found.items) c.deref-in-Some.ensures.value adds' in
    let at = picked_in g.T.Theory.atom_holds g.T.Labels.make (g.T.Theory.meaning c.args.self.now.theory.now).has only (λ t E. pick_ways (transducer_of g.T.Theory.atom_holds g.T.Labels.make (plain_second c.args.self.now.second.now)) c.args.node.now.constructor (g.T.Labels.make c.args.node.now.map.now) (meant_parts g.T.Theory.atom_holds g.T.Labels.make (g.T.Theory.meaning c.args.self.now.theory.now).has (plain_second c.args.self.now.second.now) (map plain_term c.args.node.now.parts.now)) None E) c.args.picks.items c.picks.picks.items c.pop.new.self.items c.picks.found.items c.in-Some.pick c.in-Some.ensures.items c.picks.invariant.found in
    let stand = all_at (PickStands g.T.Map.PartialEq.eq g.T.Labels.is_put g.T.Labels.is_chained (g.T.Theory.atom_fits c.args.self.now.theory.now) (g.T.Labels.map_fits c.args.self.now.theory.now) g.T.Labels.map_makes (plain_second c.args.self.now.second.now) (plain_term c.args.self.now.term.now) (plain_triple c.args.self.now.triple.now).second) c.args.picks.items c.in-Some.pick c.requires.picks at in
    let kept = subst (λ ds. AreKept g.T.Theory.atom_holds g.T.Labels.make (g.T.Theory.meaning c.args.self.now.theory.now).has (plain_second c.args.self.now.second.now) (map plain_term c.args.node.now.parts.now) (map (λ d. map (λ s. s.items) d.now) ds) c.args.node.now.map.now c.in_ok-parts.parts.items) c.deref.ensures.value c.in_ok-parts.ensures.found in
    record {
      found = (
        done ++ c.in-Some.pick ∷ [],
        splits_more c.args.picks.items c.picks.picks.items c.pop.new.self.items done c.in-Some.pick c.in-Some.ensures.items splits,
        picks_more g.T.Theory.atom_holds g.T.Labels.make (g.T.Theory.meaning c.args.self.now.theory.now).has g.T.Map.PartialEq.eq g.met.T.Labels.equal_maps only (λ t E. pick_ways (transducer_of g.T.Theory.atom_holds g.T.Labels.make (plain_second c.args.self.now.second.now)) c.args.node.now.constructor (g.T.Labels.make c.args.node.now.map.now) (meant_parts g.T.Theory.atom_holds g.T.Labels.make (g.T.Theory.meaning c.args.self.now.theory.now).has (plain_second c.args.self.now.second.now) (map plain_term c.args.node.now.parts.now)) None E) c.in-Some.pick first (ap (map plain_formula) gs) ds (ap (map plain_way_term) ts) done c.in_ok-ways.ways.items c.picks.found.items c.guard.new.found.items covers
            (covers_nodes g.T.Theory.atom_holds g.T.Labels.make (g.T.Theory.meaning c.args.self.now.theory.now).has (MapStands g.T.Map.PartialEq.eq g.T.Labels.is_put g.T.Labels.is_chained (g.T.Theory.atom_fits c.args.self.now.theory.now) (g.T.Labels.map_fits c.args.self.now.theory.now) g.T.Labels.map_makes (plain_second c.args.self.now.second.now) (plain_term c.args.self.now.term.now) (plain_triple c.args.self.now.triple.now).second) c.args.node.now.constructor (chained g.T.Labels.make c.args.node.now.map.now None) (AreWanted g.T.Theory.atom_holds g.T.Labels.make (g.T.Theory.meaning c.args.self.now.theory.now).has (plain_second c.args.self.now.second.now) (map plain_term c.args.node.now.parts.now) (pick_demands c.in-Some.pick)) (AreMoreWanted g.T.Theory.atom_holds g.T.Labels.make (g.T.Theory.meaning c.args.self.now.theory.now).has (plain_second c.args.self.now.second.now) (map plain_term c.args.node.now.parts.now) (pick_demands c.in-Some.pick)) (λ E. over_parts (g.T.Labels.make c.args.node.now.map.now) (λ h j. gives_at (transducer_of g.T.Theory.atom_holds g.T.Labels.make (plain_second c.args.self.now.second.now)) j (meant_parts g.T.Theory.atom_holds g.T.Labels.make (g.T.Theory.meaning c.args.self.now.theory.now).has (plain_second c.args.self.now.second.now) (map plain_term c.args.node.now.parts.now)) (E j) h) (kept' 0 (size (meant_parts g.T.Theory.atom_holds g.T.Labels.make (g.T.Theory.meaning c.args.self.now.theory.now).has (plain_second c.args.self.now.second.now) (map plain_term c.args.node.now.parts.now))))) c.in_ok-parts.parts.items c.in_ok-ways.ways.items kept c.in_ok-ways.ensures.nodes) adds,
      );
      made = guarded_stand g.T.Map.PartialEq.eq g.T.Labels.is_put g.T.Labels.is_chained (g.T.Theory.atom_fits c.args.self.now.theory.now) (g.T.Labels.map_fits c.args.self.now.theory.now) g.T.Labels.map_makes (plain_second c.args.self.now.second.now) (plain_term c.args.self.now.term.now) (plain_triple c.args.self.now.triple.now).second g.met.T.Map.Eq.laws (g.met.T.Labels.equal_maps_fit c.args.self.now.theory.now) g.met.T.Labels.equal_maps_make c.in-Some.pick first c.in_ok-ways.ways.items c.picks.found.items c.guard.new.found.items (ap (map plain_formula) gs) (ap (map plain_way_term) ts) adds stand
          (nodes_stand g.T.Map.PartialEq.eq g.T.Labels.is_put g.T.Labels.is_chained (g.T.Theory.atom_fits c.args.self.now.theory.now) (g.T.Labels.map_fits c.args.self.now.theory.now) g.T.Labels.map_makes (plain_second c.args.self.now.second.now) (plain_term c.args.self.now.term.now) (plain_triple c.args.self.now.triple.now).second g.T.Labels.make (g.T.Theory.meaning c.args.self.now.theory.now).has c.args.node.now.constructor (chained g.T.Labels.make c.args.node.now.map.now None) c.in_ok-parts.parts.items c.in_ok-ways.ways.items c.in_ok-ways.ensures.nodes c.in_ok-parts.ensures.made) c.picks.invariant.made;
    }

pub keep_each-returns-clause-found : goal.keep_each-returns-clause-found
keep_each-returns-clause-found g t c = picked_end g.T.Theory.atom_holds g.T.Labels.make (g.T.Theory.meaning c.args.self.now.theory.now).has only (λ t E. pick_ways (transducer_of g.T.Theory.atom_holds g.T.Labels.make (plain_second c.args.self.now.second.now)) c.args.node.now.constructor (g.T.Labels.make c.args.node.now.map.now) (meant_parts g.T.Theory.atom_holds g.T.Labels.make (g.T.Theory.meaning c.args.self.now.theory.now).has (plain_second c.args.self.now.second.now) (map plain_term c.args.node.now.parts.now)) None E) c.args.picks.items c.picks.picks.items c.picks.found.items (nil_from_length c.picks.picks.items (omega (arith, c.in_default.ensures.cases.0, c.picks.picks.ok.0))) c.picks.invariant.found

pub run_each-picks-init : goal.run_each-picks-init
run_each-picks-init g t c = record {
  found = ([], splits_start c.args.picks.items, subst (CoversPicks g.T.Theory.atom_holds g.T.Labels.make (g.T.Theory.meaning c.args.self.now.theory.now).has only (λ t E. pick_ways (transducer_of g.T.Theory.atom_holds g.T.Labels.make (plain_second c.args.self.now.second.now)) c.args.node.now.constructor (g.T.Labels.make c.args.node.now.map.now) (meant_parts g.T.Theory.atom_holds g.T.Labels.make (g.T.Theory.meaning c.args.self.now.theory.now).has (plain_second c.args.self.now.second.now) (map plain_term c.args.node.now.parts.now)) (option_map (with_maps g.T.Labels.make) t) E) []) (sym c.new-found.ensures.items) (picks_start g.T.Theory.atom_holds g.T.Labels.make (g.T.Theory.meaning c.args.self.now.theory.now).has g.T.Map.PartialEq.eq g.met.T.Labels.equal_maps only (λ t E. pick_ways (transducer_of g.T.Theory.atom_holds g.T.Labels.make (plain_second c.args.self.now.second.now)) c.args.node.now.constructor (g.T.Labels.make c.args.node.now.map.now) (meant_parts g.T.Theory.atom_holds g.T.Labels.make (g.T.Theory.meaning c.args.self.now.theory.now).has (plain_second c.args.self.now.second.now) (map plain_term c.args.node.now.parts.now)) (option_map (with_maps g.T.Labels.make) t) E)));
  made = subst (All (DraftStands g.T.Map.PartialEq.eq g.T.Labels.is_put g.T.Labels.is_chained (g.T.Theory.atom_fits c.args.self.now.theory.now) (g.T.Labels.map_fits c.args.self.now.theory.now) g.T.Labels.map_makes (plain_second c.args.self.now.second.now) (plain_term c.args.self.now.term.now) (plain_triple c.args.self.now.triple.now).second)) (sym c.new-found.ensures.items) (All-nil (DraftStands g.T.Map.PartialEq.eq g.T.Labels.is_put g.T.Labels.is_chained (g.T.Theory.atom_fits c.args.self.now.theory.now) (g.T.Labels.map_fits c.args.self.now.theory.now) g.T.Labels.map_makes (plain_second c.args.self.now.second.now) (plain_term c.args.self.now.term.now) (plain_triple c.args.self.now.triple.now).second));
}

pub run_each-picks-preserved-in_default-term : goal.run_each-picks-preserved-in_default-term
run_each-picks-preserved-in_default-term g t c =
    let at = picked_in g.T.Theory.atom_holds g.T.Labels.make (g.T.Theory.meaning c.args.self.now.theory.now).has only (λ t E. pick_ways (transducer_of g.T.Theory.atom_holds g.T.Labels.make (plain_second c.args.self.now.second.now)) c.args.node.now.constructor (g.T.Labels.make c.args.node.now.map.now) (meant_parts g.T.Theory.atom_holds g.T.Labels.make (g.T.Theory.meaning c.args.self.now.theory.now).has (plain_second c.args.self.now.second.now) (map plain_term c.args.node.now.parts.now)) (option_map (with_maps g.T.Labels.make) t) E) c.args.picks.items c.picks.picks.items c.pop.new.self.items c.picks.found.items c.in-Some.pick c.in-Some.ensures.items c.picks.invariant.found in
    let some : IsSome c.in-Some.pick.term = all_at (λ x. IsSome x.term) c.args.picks.items c.in-Some.pick c.requires.terms at in absurd (none_some c.in-Some.pick.term c.in_default-term.is some)

pub run_each-over-requires : goal.run_each-over-requires
run_each-over-requires g t c κs within =
    let before = c.decreases in
    let at = picked_in g.T.Theory.atom_holds g.T.Labels.make (g.T.Theory.meaning c.args.self.now.theory.now).has only (λ t E. pick_ways (transducer_of g.T.Theory.atom_holds g.T.Labels.make (plain_second c.args.self.now.second.now)) c.args.node.now.constructor (g.T.Labels.make c.args.node.now.map.now) (meant_parts g.T.Theory.atom_holds g.T.Labels.make (g.T.Theory.meaning c.args.self.now.theory.now).has (plain_second c.args.self.now.second.now) (map plain_term c.args.node.now.parts.now)) (option_map (with_maps g.T.Labels.make) t) E) c.args.picks.items c.picks.picks.items c.pop.new.self.items c.picks.found.items c.in-Some.pick c.in-Some.ensures.items c.picks.invariant.found in
    let is = subst (λ o. OnTerm (IsTermOf (plain_second c.args.self.now.second.now)) (option_map (λ t. plain_term t.now) o)) c.in-Some-term.is (all_at (PickStands g.T.Map.PartialEq.eq g.T.Labels.is_put g.T.Labels.is_chained (g.T.Theory.atom_fits c.args.self.now.theory.now) (g.T.Labels.map_fits c.args.self.now.theory.now) g.T.Labels.map_makes (plain_second c.args.self.now.second.now) (plain_term c.args.self.now.term.now) (plain_triple c.args.self.now.triple.now).second) c.args.picks.items c.in-Some.pick c.requires.picks at).term in
    let light = term_light (plain_second c.args.self.now.second.now) (plain_term c.in-Some-term.term.now) is in
    (omega (arith, before, light), (within.0, (within.1.0, (within.1.1.0, (within.1.1.1.0, (within.1.1.1.1, (c.requires.can, (c.requires.node, may_run (plain_second c.args.self.now.second.now) (plain_term c.in-Some-term.term.now) is))))))))

pub run_each-picks-preserved : goal.run_each-picks-preserved
run_each-picks-preserved g t c =
    let (first, gs, ds, ts, adds') = c.in_ok-guard.ensures in
    let (done, splits, covers) = c.picks.invariant.found in
    let adds = subst (λ ws. AddsProducts g.T.Map.PartialEq.eq first ws c.picks.found.items c.guard.new.found.items) c.deref-in-Some-4.ensures.value adds' in
    let at = picked_in g.T.Theory.atom_holds g.T.Labels.make (g.T.Theory.meaning c.args.self.now.theory.now).has only (λ t E. pick_ways (transducer_of g.T.Theory.atom_holds g.T.Labels.make (plain_second c.args.self.now.second.now)) c.args.node.now.constructor (g.T.Labels.make c.args.node.now.map.now) (meant_parts g.T.Theory.atom_holds g.T.Labels.make (g.T.Theory.meaning c.args.self.now.theory.now).has (plain_second c.args.self.now.second.now) (map plain_term c.args.node.now.parts.now)) (option_map (with_maps g.T.Labels.make) t) E) c.args.picks.items c.picks.picks.items c.pop.new.self.items c.picks.found.items c.in-Some.pick c.in-Some.ensures.items c.picks.invariant.found in
    let stand = all_at (PickStands g.T.Map.PartialEq.eq g.T.Labels.is_put g.T.Labels.is_chained (g.T.Theory.atom_fits c.args.self.now.theory.now) (g.T.Labels.map_fits c.args.self.now.theory.now) g.T.Labels.map_makes (plain_second c.args.self.now.second.now) (plain_term c.args.self.now.term.now) (plain_triple c.args.self.now.triple.now).second) c.args.picks.items c.in-Some.pick c.requires.picks at in
    let rest = subst (λ ds. IsRest g.T.Theory.atom_holds g.T.Labels.make (g.T.Theory.meaning c.args.self.now.theory.now).has (plain_second c.args.self.now.second.now) (map plain_term c.args.node.now.parts.now) (map (λ d. map (λ s. s.items) d.now) ds) (Some (plain_term c.in-Some-term.term.now)) c.in_ok-rest.rest.items) c.deref.ensures.value c.in_ok-rest.ensures.found in
    let over = subst (λ ds. IsOver g.T.Theory.atom_holds g.T.Labels.make (g.T.Theory.meaning c.args.self.now.theory.now).has (plain_second c.args.self.now.second.now) (map plain_term c.args.node.now.parts.now) (map (λ d. map (λ s. s.items) d.now) ds) c.args.node.now.map.now (plain_term c.in-Some-term.term.now) c.in_ok-terms.terms.items) c.deref-in-Some.ensures.value c.in_ok-terms.ensures.found in
    let both = subst (λ fs. AreProducts g.T.Map.PartialEq.eq fs c.in_ok-terms.terms.items c.in_ok-ways.ways.items) c.deref-in-Some-2.ensures.value (subst (λ ws. AreProducts g.T.Map.PartialEq.eq c.deref-in-Some-2.result.now ws c.in_ok-ways.ways.items) c.deref-in-Some-3.ensures.value c.in_ok-ways.ensures) in
    record {
      found = (
        done ++ c.in-Some.pick ∷ [],
        splits_more c.args.picks.items c.picks.picks.items c.pop.new.self.items done c.in-Some.pick c.in-Some.ensures.items splits,
        picks_more g.T.Theory.atom_holds g.T.Labels.make (g.T.Theory.meaning c.args.self.now.theory.now).has g.T.Map.PartialEq.eq g.met.T.Labels.equal_maps only (λ t E. pick_ways (transducer_of g.T.Theory.atom_holds g.T.Labels.make (plain_second c.args.self.now.second.now)) c.args.node.now.constructor (g.T.Labels.make c.args.node.now.map.now) (meant_parts g.T.Theory.atom_holds g.T.Labels.make (g.T.Theory.meaning c.args.self.now.theory.now).has (plain_second c.args.self.now.second.now) (map plain_term c.args.node.now.parts.now)) (option_map (with_maps g.T.Labels.make) t) E) c.in-Some.pick first (ap (map plain_formula) gs) ds (ap (map plain_way_term) ts) done c.in_ok-ways.ways.items c.picks.found.items c.guard.new.found.items covers
            (subst (λ o. Covers g.T.Theory.atom_holds g.T.Labels.make (g.T.Theory.meaning c.args.self.now.theory.now).has only (AreWanted g.T.Theory.atom_holds g.T.Labels.make (g.T.Theory.meaning c.args.self.now.theory.now).has (plain_second c.args.self.now.second.now) (map plain_term c.args.node.now.parts.now) (pick_demands c.in-Some.pick)) (AreMoreWanted g.T.Theory.atom_holds g.T.Labels.make (g.T.Theory.meaning c.args.self.now.theory.now).has (plain_second c.args.self.now.second.now) (map plain_term c.args.node.now.parts.now) (pick_demands c.in-Some.pick)) (λ E. pick_ways (transducer_of g.T.Theory.atom_holds g.T.Labels.make (plain_second c.args.self.now.second.now)) c.args.node.now.constructor (g.T.Labels.make c.args.node.now.map.now) (meant_parts g.T.Theory.atom_holds g.T.Labels.make (g.T.Theory.meaning c.args.self.now.theory.now).has (plain_second c.args.self.now.second.now) (map plain_term c.args.node.now.parts.now)) (option_map (with_maps g.T.Labels.make) (option_map (λ t. plain_term t.now) o)) E) c.in_ok-ways.ways.items) (sym c.in-Some-term.is) (covers_pairs g.T.Theory.atom_holds g.T.Map.PartialEq.eq g.T.Labels.make g.met.T.Labels.equal_maps (g.T.Theory.meaning c.args.self.now.theory.now).has second_of no_terms only only (λ x y. refl) (AreWanted g.T.Theory.atom_holds g.T.Labels.make (g.T.Theory.meaning c.args.self.now.theory.now).has (plain_second c.args.self.now.second.now) (map plain_term c.args.node.now.parts.now) (pick_demands c.in-Some.pick)) (AreMoreWanted g.T.Theory.atom_holds g.T.Labels.make (g.T.Theory.meaning c.args.self.now.theory.now).has (plain_second c.args.self.now.second.now) (map plain_term c.args.node.now.parts.now) (pick_demands c.in-Some.pick)) (λ E. rest_ways (transducer_of g.T.Theory.atom_holds g.T.Labels.make (plain_second c.args.self.now.second.now)) (λ j. uses j (with_maps g.T.Labels.make (plain_term c.in-Some-term.term.now))) (meant_parts g.T.Theory.atom_holds g.T.Labels.make (g.T.Theory.meaning c.args.self.now.theory.now).has (plain_second c.args.self.now.second.now) (map plain_term c.args.node.now.parts.now)) E) (λ E. over_term (g.T.Labels.make c.args.node.now.map.now) (λ h j. gives_at (transducer_of g.T.Theory.atom_holds g.T.Labels.make (plain_second c.args.self.now.second.now)) j (meant_parts g.T.Theory.atom_holds g.T.Labels.make (g.T.Theory.meaning c.args.self.now.theory.now).has (plain_second c.args.self.now.second.now) (map plain_term c.args.node.now.parts.now)) (E j) h) (with_maps g.T.Labels.make (plain_term c.in-Some-term.term.now))) c.in_ok-rest.rest.items c.in_ok-terms.terms.items c.in_ok-ways.ways.items rest over both)) adds,
      );
      made = guarded_stand g.T.Map.PartialEq.eq g.T.Labels.is_put g.T.Labels.is_chained (g.T.Theory.atom_fits c.args.self.now.theory.now) (g.T.Labels.map_fits c.args.self.now.theory.now) g.T.Labels.map_makes (plain_second c.args.self.now.second.now) (plain_term c.args.self.now.term.now) (plain_triple c.args.self.now.triple.now).second g.met.T.Map.Eq.laws (g.met.T.Labels.equal_maps_fit c.args.self.now.theory.now) g.met.T.Labels.equal_maps_make c.in-Some.pick first c.in_ok-ways.ways.items c.picks.found.items c.guard.new.found.items (ap (map plain_formula) gs) (ap (map plain_way_term) ts) adds stand
          (products_stand g.T.Map.PartialEq.eq g.T.Labels.is_put g.T.Labels.is_chained (g.T.Theory.atom_fits c.args.self.now.theory.now) (g.T.Labels.map_fits c.args.self.now.theory.now) g.T.Labels.map_makes (plain_second c.args.self.now.second.now) (plain_term c.args.self.now.term.now) (plain_triple c.args.self.now.triple.now).second g.met.T.Map.Eq.laws (g.met.T.Labels.equal_maps_fit c.args.self.now.theory.now) g.met.T.Labels.equal_maps_make c.in_ok-rest.rest.items c.in_ok-terms.terms.items c.in_ok-ways.ways.items both c.in_ok-rest.ensures.made c.in_ok-terms.ensures.made) c.picks.invariant.made;
    }

pub run_each-returns-clause-found : goal.run_each-returns-clause-found
run_each-returns-clause-found g t c =
    picked_end g.T.Theory.atom_holds g.T.Labels.make (g.T.Theory.meaning c.args.self.now.theory.now).has only (λ t E. pick_ways (transducer_of g.T.Theory.atom_holds g.T.Labels.make (plain_second c.args.self.now.second.now)) c.args.node.now.constructor (g.T.Labels.make c.args.node.now.map.now) (meant_parts g.T.Theory.atom_holds g.T.Labels.make (g.T.Theory.meaning c.args.self.now.theory.now).has (plain_second c.args.self.now.second.now) (map plain_term c.args.node.now.parts.now)) (option_map (with_maps g.T.Labels.make) t) E) c.args.picks.items c.picks.picks.items c.picks.found.items (nil_from_length c.picks.picks.items (omega (arith, c.in_default.ensures.cases.0, c.picks.picks.ok.0))) c.picks.invariant.found

pub kept-parts-init : goal.kept-parts-init
kept-parts-init g t c = record {
  low = omega arith;
  found = kept_start g.T.Theory.atom_holds g.T.Labels.make (g.T.Theory.meaning c.args.self.now.theory.now).has g.T.Map.PartialEq.eq g.met.T.Labels.equal_maps (plain_second c.args.self.now.second.now) (map plain_term c.args.node.now.parts.now) (map (λ d. map (λ s. s.items) d.now) c.args.demands.now) c.args.node.now.map.now (length c.args.node.now.parts.now) c.in_ok-ways.ways.items (omega (arith, mapped_length plain_term c.args.node.now.parts.now)) c.in_ok-ways.ensures;
  made = leaf_stands g.T.Map.PartialEq.eq g.T.Labels.is_put g.T.Labels.is_chained (g.T.Theory.atom_fits c.args.self.now.theory.now) (g.T.Labels.map_fits c.args.self.now.theory.now) g.T.Labels.map_makes (plain_second c.args.self.now.second.now) (plain_term c.args.self.now.term.now) (plain_triple c.args.self.now.triple.now).second 0 [] [] c.in_ok-ways.ways.items c.in_ok-ways.ensures (no_maps g.T.Map.PartialEq.eq g.T.Labels.is_put g.T.Labels.is_chained (g.T.Theory.atom_fits c.args.self.now.theory.now) (g.T.Labels.map_fits c.args.self.now.theory.now) g.T.Labels.map_makes (plain_second c.args.self.now.second.now) (plain_term c.args.self.now.term.now) (plain_triple c.args.self.now.triple.now).second);
}

pub kept-parts-preserved : goal.kept-parts-preserved
kept-parts-preserved g t c =
    let low : c.parts.left - 1 < length c.args.node.now.parts.now = omega (arith, c.parts-test.true, c.parts.invariant.low) in
    let up : c.parts.left ≡ suc (c.parts.left - 1) = omega (arith, c.parts-test.true) in
    let both = subst (λ fs. AreProducts g.T.Map.PartialEq.eq fs c.parts.ways.items c.in_ok-ways-2.ways.items) c.deref.ensures.value (subst (λ ws. AreProducts g.T.Map.PartialEq.eq c.deref.result.now ws c.in_ok-ways-2.ways.items) c.deref-in-parts.ensures.value c.in_ok-ways-2.ensures) in
    let (p, e) = some_dropped (map plain_term c.args.node.now.parts.now) (c.parts.left - 1) (omega (arith, low, mapped_length plain_term c.args.node.now.parts.now)) in
    record {
      low = omega (arith, low);
      found = kept_more g.T.Theory.atom_holds g.T.Labels.make (g.T.Theory.meaning c.args.self.now.theory.now).has g.T.Map.PartialEq.eq g.met.T.Labels.equal_maps (plain_second c.args.self.now.second.now) (map plain_term c.args.node.now.parts.now) (map (λ d. map (λ s. s.items) d.now) c.args.demands.now) c.args.node.now.map.now (c.parts.left - 1) p c.in_ok-firsts.firsts.items c.parts.ways.items c.in_ok-ways-2.ways.items e c.in_ok-firsts.ensures.found
          (subst (λ k. KeptFrom g.T.Theory.atom_holds g.T.Labels.make (g.T.Theory.meaning c.args.self.now.theory.now).has g.T.Map.PartialEq.eq g.met.T.Labels.equal_maps (plain_second c.args.self.now.second.now) (map plain_term c.args.node.now.parts.now) (map (λ d. map (λ s. s.items) d.now) c.args.demands.now) c.args.node.now.map.now k c.parts.ways.items) up c.parts.invariant.found) both;
      made = products_stand g.T.Map.PartialEq.eq g.T.Labels.is_put g.T.Labels.is_chained (g.T.Theory.atom_fits c.args.self.now.theory.now) (g.T.Labels.map_fits c.args.self.now.theory.now) g.T.Labels.map_makes (plain_second c.args.self.now.second.now) (plain_term c.args.self.now.term.now) (plain_triple c.args.self.now.triple.now).second g.met.T.Map.Eq.laws (g.met.T.Labels.equal_maps_fit c.args.self.now.theory.now) g.met.T.Labels.equal_maps_make c.in_ok-firsts.firsts.items c.parts.ways.items c.in_ok-ways-2.ways.items both c.in_ok-firsts.ensures.made c.parts.invariant.made;
    }

pub kept-returns-clause-found : goal.kept-returns-clause-found
kept-returns-clause-found g t c =
    let none : c.parts.left ≡ 0 = omega (arith, c.parts-test.false) in
    kept_end g.T.Theory.atom_holds g.T.Labels.make (g.T.Theory.meaning c.args.self.now.theory.now).has g.T.Map.PartialEq.eq g.met.T.Labels.equal_maps (plain_second c.args.self.now.second.now) (map plain_term c.args.node.now.parts.now) (map (λ d. map (λ s. s.items) d.now) c.args.demands.now) c.args.node.now.map.now c.parts.ways.items (subst (λ k. KeptFrom g.T.Theory.atom_holds g.T.Labels.make (g.T.Theory.meaning c.args.self.now.theory.now).has g.T.Map.PartialEq.eq g.met.T.Labels.equal_maps (plain_second c.args.self.now.second.now) (map plain_term c.args.node.now.parts.now) (map (λ d. map (λ s. s.items) d.now) c.args.demands.now) c.args.node.now.map.now k c.parts.ways.items) none c.parts.invariant.found)

pub over-at-requires : goal.over-at-requires
over-at-requires g t c κs within =
    let before = c.decreases in
    (omega (arith, before), (within.0, (within.1.0, (within.1.1.0, (within.1.1.1.0, (within.1.1.1.1, (c.requires.can, (c.requires.node, inr (c.requires.term.same c.in-Same.child (subst (λ t. Occurs identity c.in-Same.child (plain_term t)) (sym c.in-Same.is) (refl, refl)))))))))))

pub over-over_each-requires : goal.over-over_each-requires
over-over_each-requires g t c κs within =
    let before = c.decreases in
    let whole = node_weight c.args.term.now c.in-Node.constructor c.in-Node.map c.in-Node.parts c.deref.result.now c.in-Node.is c.deref.ensures.value in
    (omega (arith, before, whole), (within.0, (within.1.0, (within.1.1.0, (within.1.1.1.0, (within.1.1.1.1, (c.requires.can, (c.requires.node, parts_run (plain_second c.args.self.now.second.now) c.args.term.now c.in-Node.constructor c.in-Node.map c.in-Node.parts c.deref.result.now c.in-Node.is c.deref.ensures.value c.requires.term))))))))

pub over-returns-in-Same-clause-found : goal.over-returns-in-Same-clause-found
over-returns-in-Same-clause-found g t c =
    subst (λ t. IfOk c.at.result (λ ys. IsOver g.T.Theory.atom_holds g.T.Labels.make (g.T.Theory.meaning c.args.self.now.theory.now).has (plain_second c.args.self.now.second.now) (map plain_term c.args.node.now.parts.now) (map (λ d. map (λ s. s.items) d.now) c.args.demands.now) c.args.node.now.map.now (plain_term t) ys.items)) (sym c.in-Same.is) c.at.ensures.found

pub over-returns-in-Call-clause-found : goal.over-returns-in-Call-clause-found
over-returns-in-Call-clause-found g t c =
    subst (λ t. IfOk c.at-in-Call.result (λ ys. IsOver g.T.Theory.atom_holds g.T.Labels.make (g.T.Theory.meaning c.args.self.now.theory.now).has (plain_second c.args.self.now.second.now) (map plain_term c.args.node.now.parts.now) (map (λ d. map (λ s. s.items) d.now) c.args.demands.now) c.args.node.now.map.now (plain_term t) ys.items)) (sym c.in-Call.is) c.at-in-Call.ensures.found

pub over-returns-in_ok-ways-in-Node-clause-found : goal.over-returns-in_ok-ways-in-Node-clause-found
over-returns-in_ok-ways-in-Node-clause-found g t c =
    subst (λ q. Covers g.T.Theory.atom_holds g.T.Labels.make (g.T.Theory.meaning c.args.self.now.theory.now).has only (AreWanted g.T.Theory.atom_holds g.T.Labels.make (g.T.Theory.meaning c.args.self.now.theory.now).has (plain_second c.args.self.now.second.now) (map plain_term c.args.node.now.parts.now) (map (λ d. map (λ s. s.items) d.now) c.args.demands.now)) (AreMoreWanted g.T.Theory.atom_holds g.T.Labels.make (g.T.Theory.meaning c.args.self.now.theory.now).has (plain_second c.args.self.now.second.now) (map plain_term c.args.node.now.parts.now) (map (λ d. map (λ s. s.items) d.now) c.args.demands.now)) (λ E. over_term (g.T.Labels.make c.args.node.now.map.now) (λ h j. gives_at (transducer_of g.T.Theory.atom_holds g.T.Labels.make (plain_second c.args.self.now.second.now)) j (meant_parts g.T.Theory.atom_holds g.T.Labels.make (g.T.Theory.meaning c.args.self.now.theory.now).has (plain_second c.args.self.now.second.now) (map plain_term c.args.node.now.parts.now)) (E j) h) q) c.in_ok-ways-in-Node.ways.items) (sym (node_meant g.T.Labels.make c.args.term.now c.in-Node.constructor c.in-Node.map c.in-Node.parts c.deref.result.now c.in-Node.is c.deref.ensures.value))
    (covers_nodes g.T.Theory.atom_holds g.T.Labels.make (g.T.Theory.meaning c.args.self.now.theory.now).has (MapStands g.T.Map.PartialEq.eq g.T.Labels.is_put g.T.Labels.is_chained (g.T.Theory.atom_fits c.args.self.now.theory.now) (g.T.Labels.map_fits c.args.self.now.theory.now) g.T.Labels.map_makes (plain_second c.args.self.now.second.now) (plain_term c.args.self.now.term.now) (plain_triple c.args.self.now.triple.now).second) c.in-Node.constructor (chained g.T.Labels.make c.args.node.now.map.now (Some c.in-Node.map)) (AreWanted g.T.Theory.atom_holds g.T.Labels.make (g.T.Theory.meaning c.args.self.now.theory.now).has (plain_second c.args.self.now.second.now) (map plain_term c.args.node.now.parts.now) (map (λ d. map (λ s. s.items) d.now) c.args.demands.now)) (AreMoreWanted g.T.Theory.atom_holds g.T.Labels.make (g.T.Theory.meaning c.args.self.now.theory.now).has (plain_second c.args.self.now.second.now) (map plain_term c.args.node.now.parts.now) (map (λ d. map (λ s. s.items) d.now) c.args.demands.now)) (λ E. over_parts (g.T.Labels.make c.args.node.now.map.now) (λ h j. gives_at (transducer_of g.T.Theory.atom_holds g.T.Labels.make (plain_second c.args.self.now.second.now)) j (meant_parts g.T.Theory.atom_holds g.T.Labels.make (g.T.Theory.meaning c.args.self.now.theory.now).has (plain_second c.args.self.now.second.now) (map plain_term c.args.node.now.parts.now)) (E j) h) (parts_of (map (with_maps g.T.Labels.make) (map plain_term c.deref.result.now)))) c.in_ok-rows-in-Node.rows.items c.in_ok-ways-in-Node.ways.items c.in_ok-rows-in-Node.ensures.found c.in_ok-ways-in-Node.ensures.nodes)

pub over-returns-in_ok-ways-in-Node-clause-made : goal.over-returns-in_ok-ways-in-Node-clause-made
over-returns-in_ok-ways-in-Node-clause-made g t c =
    nodes_stand g.T.Map.PartialEq.eq g.T.Labels.is_put g.T.Labels.is_chained (g.T.Theory.atom_fits c.args.self.now.theory.now) (g.T.Labels.map_fits c.args.self.now.theory.now) g.T.Labels.map_makes (plain_second c.args.self.now.second.now) (plain_term c.args.self.now.term.now) (plain_triple c.args.self.now.triple.now).second g.T.Labels.make (g.T.Theory.meaning c.args.self.now.theory.now).has c.in-Node.constructor (chained g.T.Labels.make c.args.node.now.map.now (Some c.in-Node.map)) c.in_ok-rows-in-Node.rows.items c.in_ok-ways-in-Node.ways.items c.in_ok-ways-in-Node.ensures.nodes c.in_ok-rows-in-Node.ensures.made

pub over_each-terms-init : goal.over_each-terms-init
over_each-terms-init g t c = record {
  low = omega arith;
  found = over_start g.T.Theory.atom_holds g.T.Labels.make (g.T.Theory.meaning c.args.self.now.theory.now).has g.T.Map.PartialEq.eq g.met.T.Labels.equal_maps (plain_second c.args.self.now.second.now) (map plain_term c.args.node.now.parts.now) (map (λ d. map (λ s. s.items) d.now) c.args.demands.now) c.args.node.now.map.now (map plain_term c.args.terms.now) (length c.args.terms.now) c.in_ok-ways.ways.items (omega (arith, mapped_length plain_term c.args.terms.now)) c.in_ok-ways.ensures;
  made = leaf_stands g.T.Map.PartialEq.eq g.T.Labels.is_put g.T.Labels.is_chained (g.T.Theory.atom_fits c.args.self.now.theory.now) (g.T.Labels.map_fits c.args.self.now.theory.now) g.T.Labels.map_makes (plain_second c.args.self.now.second.now) (plain_term c.args.self.now.term.now) (plain_triple c.args.self.now.triple.now).second 0 [] [] c.in_ok-ways.ways.items c.in_ok-ways.ensures (no_maps g.T.Map.PartialEq.eq g.T.Labels.is_put g.T.Labels.is_chained (g.T.Theory.atom_fits c.args.self.now.theory.now) (g.T.Labels.map_fits c.args.self.now.theory.now) g.T.Labels.map_makes (plain_second c.args.self.now.second.now) (plain_term c.args.self.now.term.now) (plain_triple c.args.self.now.triple.now).second);
}

pub over_each-over-requires : goal.over_each-over-requires
over_each-over-requires g t c κs within =
    let before = c.decreases in
    let low : c.terms.left - 1 < length c.args.terms.now = omega (arith, c.terms-test.true, c.terms.invariant.low) in
    let at = at_place c.args.terms.now (c.terms.left - 1) c.index-terms-left.result low c.index-terms-left.is in
    let light = one_weight (map plain_term c.args.terms.now) (plain_term c.index-terms-left.result) (to_mapped plain_term c.args.terms.now c.index-terms-left.result at) in
    (omega (arith, before, light), (within.0, (within.1.0, (within.1.1.0, (within.1.1.1.0, (within.1.1.1.1, (c.requires.can, (c.requires.node, all_at (λ t. MayRun (plain_second c.args.self.now.second.now) (plain_term t)) c.args.terms.now c.index-terms-left.result c.requires.terms at))))))))

pub over_each-terms-preserved : goal.over_each-terms-preserved
over_each-terms-preserved g t c =
    let low : c.terms.left - 1 < length c.args.terms.now = omega (arith, c.terms-test.true, c.terms.invariant.low) in
    let up : c.terms.left ≡ suc (c.terms.left - 1) = omega (arith, c.terms-test.true) in
    let both = subst (λ fs. AreProducts g.T.Map.PartialEq.eq fs c.terms.ways.items c.in_ok-ways-2.ways.items) c.deref.ensures.value (subst (λ ws. AreProducts g.T.Map.PartialEq.eq c.deref.result.now ws c.in_ok-ways-2.ways.items) c.deref-in-terms.ensures.value c.in_ok-ways-2.ensures) in
    record {
      low = omega (arith, low);
      found = over_more g.T.Theory.atom_holds g.T.Labels.make (g.T.Theory.meaning c.args.self.now.theory.now).has g.T.Map.PartialEq.eq g.met.T.Labels.equal_maps (plain_second c.args.self.now.second.now) (map plain_term c.args.node.now.parts.now) (map (λ d. map (λ s. s.items) d.now) c.args.demands.now) c.args.node.now.map.now (map plain_term c.args.terms.now) (c.terms.left - 1) (plain_term c.index-terms-left.result) c.in_ok-firsts.firsts.items c.terms.ways.items c.in_ok-ways-2.ways.items
          (dropped plain_term c.args.terms.now (c.terms.left - 1) c.index-terms-left.result low c.index-terms-left.is) c.in_ok-firsts.ensures.found
          (subst (λ k. OverFrom g.T.Theory.atom_holds g.T.Labels.make (g.T.Theory.meaning c.args.self.now.theory.now).has g.T.Map.PartialEq.eq g.met.T.Labels.equal_maps (plain_second c.args.self.now.second.now) (map plain_term c.args.node.now.parts.now) (map (λ d. map (λ s. s.items) d.now) c.args.demands.now) c.args.node.now.map.now (map plain_term c.args.terms.now) k c.terms.ways.items) up c.terms.invariant.found) both;
      made = products_stand g.T.Map.PartialEq.eq g.T.Labels.is_put g.T.Labels.is_chained (g.T.Theory.atom_fits c.args.self.now.theory.now) (g.T.Labels.map_fits c.args.self.now.theory.now) g.T.Labels.map_makes (plain_second c.args.self.now.second.now) (plain_term c.args.self.now.term.now) (plain_triple c.args.self.now.triple.now).second g.met.T.Map.Eq.laws (g.met.T.Labels.equal_maps_fit c.args.self.now.theory.now) g.met.T.Labels.equal_maps_make c.in_ok-firsts.firsts.items c.terms.ways.items c.in_ok-ways-2.ways.items both c.in_ok-firsts.ensures.made c.terms.invariant.made;
    }

pub over_each-returns-clause-found : goal.over_each-returns-clause-found
over_each-returns-clause-found g t c =
    let none : c.terms.left ≡ 0 = omega (arith, c.terms-test.false) in
    subst (λ k. OverFrom g.T.Theory.atom_holds g.T.Labels.make (g.T.Theory.meaning c.args.self.now.theory.now).has g.T.Map.PartialEq.eq g.met.T.Labels.equal_maps (plain_second c.args.self.now.second.now) (map plain_term c.args.node.now.parts.now) (map (λ d. map (λ s. s.items) d.now) c.args.demands.now) c.args.node.now.map.now (map plain_term c.args.terms.now) k c.terms.ways.items) none c.terms.invariant.found
