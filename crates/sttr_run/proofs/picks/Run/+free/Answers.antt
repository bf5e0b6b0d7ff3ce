use Rattle.std.proofs.Common.{◌≡◌, ◌-◌, ◌<◌, ◌++◌, ◌∷◌, [], false, map, get_or, length, All, None, suc, refl, subst, sym, ap, ◌∙◌, arith}
use Rattle.std.specs.Option.{option_map}
use Rattle.std.proofs.lemmas.List.{nil_from_length}
use Rattle.std.proofs.lemmas.List.Elements.{All-nil}
use Rattle.label_core.specs.Formula.{plain_formula}
use Rattle.model_sttr.specs.Terms.{with_maps}
use Rattle.model_sttr.specs.Transducer.{identity, run}
use Rattle.sta_core.specs.Sta.{automaton_of}
use Rattle.sttr_core.specs.Machine.{transducer_of}
use Rattle.sttr_core.specs.Terms.{plain_term}
use Rattle.sttr_theory.specs.Lists.{SameStates}
use Rattle.sttr_theory.specs.Ways.{free_ways, rest_ways}
use Rattle.sttr_theory.proofs.Members.{to_mapped}
use Rattle.sttr_run.specs.Drafts.{AreAmong, AddsProducts, AreProducts, no_terms, Covers}
use Rattle.sttr_run.specs.Found.{DraftStands, PickStands, IsWithin, IsFree, IsRest, used_by, meant_parts, CoversPicks}
use Rattle.sttr_run.specs.Plain.{plain_second, plain_triple, plain_way_term}
use Rattle.sttr_run.proofs.LeafWays.{demanded_covered}
use Rattle.sttr_run.proofs.Made.{leaf_stands, no_maps, products_stand, guarded_stand}
use Rattle.sttr_run.proofs.Members.{all_at, at_place}
use Rattle.sttr_run.proofs.NodeWays.{picks_cover}
use Rattle.sttr_run.proofs.Popping.{splits_start, splits_more, picked_end, picked_in}
use Rattle.sttr_run.proofs.RowWays.{RestFrom, picks_start, picks_more, rest_start, rest_more, rest_skip}
use Rattle.sttr_run.proofs.Weights.{node_weight, one_weight, node_in, node_meant, dropped, fused, mapped_length, some_dropped}
use Rattle.sttr_run.proofs.picks.Run.+free.Goals as goal

pub free-returns-in_ok-ways-in-Same-clause-found : goal.free-returns-in_ok-ways-in-Same-clause-found
free-returns-in_ok-ways-in-Same-clause-found g t c =
    subst (λ t. IsFree g.T.Theory.atom_holds g.T.Labels.make (g.T.Theory.meaning c.args.self.now.theory.now).has (plain_second c.args.self.now.second.now) (plain_term t) c.args.all.now.states.items c.in_ok-ways-in-Same.ways.items) (sym c.in-Same.is)
    (demanded_covered g.T.Theory.atom_holds g.T.Labels.make (g.T.Theory.meaning c.args.self.now.theory.now).has c.args.all.now.states.items c.in-Same.child c.in_ok-ways-in-Same.ways.items (transducer_of g.T.Theory.atom_holds g.T.Labels.make (plain_second c.args.self.now.second.now)) identity c.in_ok-ways-in-Same.ensures)

pub free-returns-in_ok-ways-in-Call-clause-found : goal.free-returns-in_ok-ways-in-Call-clause-found
free-returns-in_ok-ways-in-Call-clause-found g t c =
    subst (λ t. IsFree g.T.Theory.atom_holds g.T.Labels.make (g.T.Theory.meaning c.args.self.now.theory.now).has (plain_second c.args.self.now.second.now) (plain_term t) c.args.all.now.states.items c.in_ok-ways-in-Call.ways.items) (sym c.in-Call.is)
    (demanded_covered g.T.Theory.atom_holds g.T.Labels.make (g.T.Theory.meaning c.args.self.now.theory.now).has c.args.all.now.states.items c.in-Call.child c.in_ok-ways-in-Call.ways.items (transducer_of g.T.Theory.atom_holds g.T.Labels.make (plain_second c.args.self.now.second.now)) (run c.in-Call.state) c.in_ok-ways-in-Call.ensures)

pub free-returns-in_ok-ways-in-Node-clause-found : goal.free-returns-in_ok-ways-in-Node-clause-found
free-returns-in_ok-ways-in-Node-clause-found g t c =
    let meant = meant_parts g.T.Theory.atom_holds g.T.Labels.make (g.T.Theory.meaning c.args.self.now.theory.now).has (plain_second c.args.self.now.second.now) (map plain_term c.deref.result.now) in
    subst (λ p. Covers g.T.Theory.atom_holds g.T.Labels.make (g.T.Theory.meaning c.args.self.now.theory.now).has no_terms (SameStates c.args.all.now.states.items) (AreAmong c.args.all.now.states.items) (free_ways (transducer_of g.T.Theory.atom_holds g.T.Labels.make (plain_second c.args.self.now.second.now)) p) c.in_ok-ways-in-Node.ways.items) (sym (node_meant g.T.Labels.make c.args.term.now c.in-Node.constructor c.in-Node.map c.in-Node.parts c.deref.result.now c.in-Node.is c.deref.ensures.value))
    (picks_cover g.T.Theory.atom_holds g.T.Labels.make (g.T.Theory.meaning c.args.self.now.theory.now).has no_terms c.in-Node.constructor c.in-Node.map (automaton_of g.T.Theory.atom_holds (plain_second c.args.self.now.second.now).looks) c.args.all.now.states.items c.args.all.now.ascending c.in_ok-picks-in-Node.picks.items c.in_ok-picks-in-Node.ensures.picks c.in_ok-ways-in-Node.ways.items
    (λ t E. rest_ways (transducer_of g.T.Theory.atom_holds g.T.Labels.make (plain_second c.args.self.now.second.now)) (λ j. false) meant E) (rest_ways (transducer_of g.T.Theory.atom_holds g.T.Labels.make (plain_second c.args.self.now.second.now)) (λ j. false) meant) (λ x. refl) c.in_ok-ways-in-Node.ensures.found)

pub free_each-picks-init : goal.free_each-picks-init
free_each-picks-init g t c = record {
  found = ([], splits_start c.args.picks.items, subst (CoversPicks g.T.Theory.atom_holds g.T.Labels.make (g.T.Theory.meaning c.args.self.now.theory.now).has no_terms (λ t E. rest_ways (transducer_of g.T.Theory.atom_holds g.T.Labels.make (plain_second c.args.self.now.second.now)) (λ j. false) (meant_parts g.T.Theory.atom_holds g.T.Labels.make (g.T.Theory.meaning c.args.self.now.theory.now).has (plain_second c.args.self.now.second.now) (map plain_term c.args.node.now.parts.now)) E) []) (sym c.new-found.ensures.items) (picks_start g.T.Theory.atom_holds g.T.Labels.make (g.T.Theory.meaning c.args.self.now.theory.now).has g.T.Map.PartialEq.eq g.met.T.Labels.equal_maps no_terms (λ t E. rest_ways (transducer_of g.T.Theory.atom_holds g.T.Labels.make (plain_second c.args.self.now.second.now)) (λ j. false) (meant_parts g.T.Theory.atom_holds g.T.Labels.make (g.T.Theory.meaning c.args.self.now.theory.now).has (plain_second c.args.self.now.second.now) (map plain_term c.args.node.now.parts.now)) E)));
  made = subst (All (DraftStands g.T.Map.PartialEq.eq g.T.Labels.is_put g.T.Labels.is_chained (g.T.Theory.atom_fits c.args.self.now.theory.now) (g.T.Labels.map_fits c.args.self.now.theory.now) g.T.Labels.map_makes (plain_second c.args.self.now.second.now) (plain_term c.args.self.now.term.now) (plain_triple c.args.self.now.triple.now).second)) (sym c.new-found.ensures.items) (All-nil (DraftStands g.T.Map.PartialEq.eq g.T.Labels.is_put g.T.Labels.is_chained (g.T.Theory.atom_fits c.args.self.now.theory.now) (g.T.Labels.map_fits c.args.self.now.theory.now) g.T.Labels.map_makes (plain_second c.args.self.now.second.now) (plain_term c.args.self.now.term.now) (plain_triple c.args.self.now.triple.now).second));
}

pub free_each-picks-preserved : goal.free_each-picks-preserved
free_each-picks-preserved g t c =
    let (first, gs, ds, ts, adds') = c.in_ok-guard.ensures in
    let (done, splits, covers) = c.picks.invariant.found in
    let adds = subst (λ ws. AddsProducts g.T.Map.PartialEq.eq first ws c.picks.found.items c.guard.new.found.items) c.deref-in-Some.ensures.value adds' in
    let rest = subst (λ ds. IsRest g.T.Theory.atom_holds g.T.Labels.make (g.T.Theory.meaning c.args.self.now.theory.now).has (plain_second c.args.self.now.second.now) (map plain_term c.args.node.now.parts.now) (map (λ d. map (λ s. s.items) d.now) ds) None c.in_ok-rest.rest.items) c.deref.ensures.value c.in_ok-rest.ensures.found in
    record {
      found = (
        done ++ c.in-Some.pick ∷ [],
        splits_more c.args.picks.items c.picks.picks.items c.pop.new.self.items done c.in-Some.pick c.in-Some.ensures.items splits,
        picks_more g.T.Theory.atom_holds g.T.Labels.make (g.T.Theory.meaning c.args.self.now.theory.now).has g.T.Map.PartialEq.eq g.met.T.Labels.equal_maps no_terms (λ t E. rest_ways (transducer_of g.T.Theory.atom_holds g.T.Labels.make (plain_second c.args.self.now.second.now)) (λ j. false) (meant_parts g.T.Theory.atom_holds g.T.Labels.make (g.T.Theory.meaning c.args.self.now.theory.now).has (plain_second c.args.self.now.second.now) (map plain_term c.args.node.now.parts.now)) E) c.in-Some.pick first (ap (map plain_formula) gs) ds (ap (map plain_way_term) ts) done c.in_ok-rest.rest.items c.picks.found.items c.guard.new.found.items covers rest adds,
      );
      made = guarded_stand g.T.Map.PartialEq.eq g.T.Labels.is_put g.T.Labels.is_chained (g.T.Theory.atom_fits c.args.self.now.theory.now) (g.T.Labels.map_fits c.args.self.now.theory.now) g.T.Labels.map_makes (plain_second c.args.self.now.second.now) (plain_term c.args.self.now.term.now) (plain_triple c.args.self.now.triple.now).second g.met.T.Map.Eq.laws (g.met.T.Labels.equal_maps_fit c.args.self.now.theory.now) g.met.T.Labels.equal_maps_make c.in-Some.pick first c.in_ok-rest.rest.items c.picks.found.items c.guard.new.found.items (ap (map plain_formula) gs) (ap (map plain_way_term) ts) adds
          (all_at (PickStands g.T.Map.PartialEq.eq g.T.Labels.is_put g.T.Labels.is_chained (g.T.Theory.atom_fits c.args.self.now.theory.now) (g.T.Labels.map_fits c.args.self.now.theory.now) g.T.Labels.map_makes (plain_second c.args.self.now.second.now) (plain_term c.args.self.now.term.now) (plain_triple c.args.self.now.triple.now).second) c.args.picks.items c.in-Some.pick c.requires.picks (picked_in g.T.Theory.atom_holds g.T.Labels.make (g.T.Theory.meaning c.args.self.now.theory.now).has no_terms (λ t E. rest_ways (transducer_of g.T.Theory.atom_holds g.T.Labels.make (plain_second c.args.self.now.second.now)) (λ j. false) (meant_parts g.T.Theory.atom_holds g.T.Labels.make (g.T.Theory.meaning c.args.self.now.theory.now).has (plain_second c.args.self.now.second.now) (map plain_term c.args.node.now.parts.now)) E) c.args.picks.items c.picks.picks.items c.pop.new.self.items c.picks.found.items c.in-Some.pick c.in-Some.ensures.items c.picks.invariant.found))
          c.in_ok-rest.ensures.made c.picks.invariant.made;
    }

pub free_each-returns-clause-found : goal.free_each-returns-clause-found
free_each-returns-clause-found g t c = picked_end g.T.Theory.atom_holds g.T.Labels.make (g.T.Theory.meaning c.args.self.now.theory.now).has no_terms (λ t E. rest_ways (transducer_of g.T.Theory.atom_holds g.T.Labels.make (plain_second c.args.self.now.second.now)) (λ j. false) (meant_parts g.T.Theory.atom_holds g.T.Labels.make (g.T.Theory.meaning c.args.self.now.theory.now).has (plain_second c.args.self.now.second.now) (map plain_term c.args.node.now.parts.now)) E) c.args.picks.items c.picks.picks.items c.picks.found.items (nil_from_length c.picks.picks.items (omega (arith, c.in_default.ensures.cases.0, c.picks.picks.ok.0))) c.picks.invariant.found

pub free-free_each-requires : goal.free-free_each-requires
free-free_each-requires g t c κs within =
    let before = c.decreases in
    let whole = node_weight c.args.term.now c.in-Node.constructor c.in-Node.map c.in-Node.parts c.deref.result.now c.in-Node.is c.deref.ensures.value in
    (omega (arith, before, whole), (within.0, (within.1.0, (within.1.1.0, (within.1.1.1.0, (within.1.1.1.1, (c.requires.can, (node_in (plain_term c.args.self.now.term.now) c.args.term.now c.in-Node.constructor c.in-Node.map c.in-Node.parts c.deref.result.now c.in-Node.is c.deref.ensures.value c.requires.within, c.in_ok-picks-in-Node.ensures.stand))))))))

pub rest-parts-init : goal.rest-parts-init
rest-parts-init g t c = record {
  low = omega arith;
  found = rest_start g.T.Theory.atom_holds g.T.Labels.make (g.T.Theory.meaning c.args.self.now.theory.now).has g.T.Map.PartialEq.eq g.met.T.Labels.equal_maps (plain_second c.args.self.now.second.now) (map plain_term c.args.node.now.parts.now) (map (λ d. map (λ s. s.items) d.now) c.args.demands.now) (option_map (λ t. plain_term t.now) c.args.term) (length c.args.node.now.parts.now) c.in_ok-ways.ways.items (omega (arith, mapped_length plain_term c.args.node.now.parts.now)) c.in_ok-ways.ensures;
  made = leaf_stands g.T.Map.PartialEq.eq g.T.Labels.is_put g.T.Labels.is_chained (g.T.Theory.atom_fits c.args.self.now.theory.now) (g.T.Labels.map_fits c.args.self.now.theory.now) g.T.Labels.map_makes (plain_second c.args.self.now.second.now) (plain_term c.args.self.now.term.now) (plain_triple c.args.self.now.triple.now).second 0 [] [] c.in_ok-ways.ways.items c.in_ok-ways.ensures (no_maps g.T.Map.PartialEq.eq g.T.Labels.is_put g.T.Labels.is_chained (g.T.Theory.atom_fits c.args.self.now.theory.now) (g.T.Labels.map_fits c.args.self.now.theory.now) g.T.Labels.map_makes (plain_second c.args.self.now.second.now) (plain_term c.args.self.now.term.now) (plain_triple c.args.self.now.triple.now).second);
}

pub rest-free-requires : goal.rest-free-requires
rest-free-requires g t c κs within =
    let before = c.decreases in
    let low : c.parts.left - 1 < length c.args.node.now.parts.now = omega (arith, c.parts-test.true, c.parts.invariant.low) in
    let at = to_mapped plain_term c.args.node.now.parts.now (get_or c.args.node.now.parts.now (c.parts.left - 1) c.index-node-left.result) (at_place c.args.node.now.parts.now (c.parts.left - 1) (get_or c.args.node.now.parts.now (c.parts.left - 1) c.index-node-left.result) low (ap (λ d. get_or c.args.node.now.parts.now (c.parts.left - 1) d) c.index-node-left.is)) in
    let light = one_weight (map plain_term c.args.node.now.parts.now) (plain_term (get_or c.args.node.now.parts.now (c.parts.left - 1) c.index-node-left.result)) at in
    (omega (arith, before, light), (within.0, (within.1.0, (within.1.1.0, (within.1.1.1.0, (within.1.1.1.1, (c.requires.can, all_at (IsWithin (plain_term c.args.self.now.term.now)) (map plain_term c.args.node.now.parts.now) (plain_term (get_or c.args.node.now.parts.now (c.parts.left - 1) c.index-node-left.result)) c.requires.node.within at)))))))

pub rest-parts-preserved-then-not-is_used : goal.rest-parts-preserved-then-not-is_used
rest-parts-preserved-then-not-is_used g t c =
    let low : c.parts.left - 1 < length c.args.node.now.parts.now = omega (arith, c.parts-test.true, c.parts.invariant.low) in
    let up : c.parts.left ≡ suc (c.parts.left - 1) = omega (arith, c.parts-test.true) in
    let both = subst (λ fs. AreProducts g.T.Map.PartialEq.eq fs c.parts.ways.items c.in_ok-ways-2.ways.items) c.deref.ensures.value (subst (λ ws. AreProducts g.T.Map.PartialEq.eq c.deref.result.now ws c.in_ok-ways-2.ways.items) c.deref-then-not-is_used.ensures.value c.in_ok-ways-2.ensures) in
    record {
      low = omega (arith, low);
      found = rest_more g.T.Theory.atom_holds g.T.Labels.make (g.T.Theory.meaning c.args.self.now.theory.now).has g.T.Map.PartialEq.eq g.met.T.Labels.equal_maps (plain_second c.args.self.now.second.now) (map plain_term c.args.node.now.parts.now) (map (λ d. map (λ s. s.items) d.now) c.args.demands.now) (option_map (λ t. plain_term t.now) c.args.term) (c.parts.left - 1) (plain_term (get_or c.args.node.now.parts.now (c.parts.left - 1) c.index-node-left.result)) c.in_ok-all.all.states.items c.in_ok-free.free.items c.parts.ways.items c.in_ok-ways-2.ways.items
          (dropped plain_term c.args.node.now.parts.now (c.parts.left - 1) (get_or c.args.node.now.parts.now (c.parts.left - 1) c.index-node-left.result) low (ap (λ d. get_or c.args.node.now.parts.now (c.parts.left - 1) d) c.index-node-left.is))
          (ap (λ o. used_by o (c.parts.left - 1)) (fused (with_maps g.T.Labels.make) (λ t. plain_term t.now) c.args.term) ∙ sym (c.if-not-is_used.ensures g.T.Labels.make)) c.in_ok-all.ensures c.in_ok-free.ensures.found
          (subst (λ k. RestFrom g.T.Theory.atom_holds g.T.Labels.make (g.T.Theory.meaning c.args.self.now.theory.now).has g.T.Map.PartialEq.eq g.met.T.Labels.equal_maps (plain_second c.args.self.now.second.now) (map plain_term c.args.node.now.parts.now) (map (λ d. map (λ s. s.items) d.now) c.args.demands.now) (option_map (λ t. plain_term t.now) c.args.term) k c.parts.ways.items) up c.parts.invariant.found) both;
      made = products_stand g.T.Map.PartialEq.eq g.T.Labels.is_put g.T.Labels.is_chained (g.T.Theory.atom_fits c.args.self.now.theory.now) (g.T.Labels.map_fits c.args.self.now.theory.now) g.T.Labels.map_makes (plain_second c.args.self.now.second.now) (plain_term c.args.self.now.term.now) (plain_triple c.args.self.now.triple.now).second g.met.T.Map.Eq.laws (g.met.T.Labels.equal_maps_fit c.args.self.now.theory.now) g.met.T.Labels.equal_maps_make c.in_ok-free.free.items c.parts.ways.items c.in_ok-ways-2.ways.items both c.in_ok-free.ensures.made c.parts.invariant.made;
    }

pub rest-parts-preserved : goal.rest-parts-preserved
rest-parts-preserved g t c =
    let low : c.parts.left - 1 < length c.args.node.now.parts.now = omega (arith, c.parts-test.true, c.parts.invariant.low) in
    let up : c.parts.left ≡ suc (c.parts.left - 1) = omega (arith, c.parts-test.true) in
    record {
      low = omega (arith, low);
      found = (let (p, e) = some_dropped (map plain_term c.args.node.now.parts.now) (c.parts.left - 1) (omega (arith, low, mapped_length plain_term c.args.node.now.parts.now)) in
          rest_skip g.T.Theory.atom_holds g.T.Labels.make (g.T.Theory.meaning c.args.self.now.theory.now).has g.T.Map.PartialEq.eq g.met.T.Labels.equal_maps (plain_second c.args.self.now.second.now) (map plain_term c.args.node.now.parts.now) (map (λ d. map (λ s. s.items) d.now) c.args.demands.now) (option_map (λ t. plain_term t.now) c.args.term) (c.parts.left - 1) p c.parts.ways.items e
          (ap (λ o. used_by o (c.parts.left - 1)) (fused (with_maps g.T.Labels.make) (λ t. plain_term t.now) c.args.term) ∙ sym (c.if-not-is_used.ensures g.T.Labels.make))
          (subst (λ k. RestFrom g.T.Theory.atom_holds g.T.Labels.make (g.T.Theory.meaning c.args.self.now.theory.now).has g.T.Map.PartialEq.eq g.met.T.Labels.equal_maps (plain_second c.args.self.now.second.now) (map plain_term c.args.node.now.parts.now) (map (λ d. map (λ s. s.items) d.now) c.args.demands.now) (option_map (λ t. plain_term t.now) c.args.term) k c.parts.ways.items) up c.parts.invariant.found));
      made = c.parts.invariant.made;
    }

pub rest-returns-clause-found : goal.rest-returns-clause-found
rest-returns-clause-found g t c =
    let none : c.parts.left ≡ 0 = omega (arith, c.parts-test.false) in
    subst (λ k. RestFrom g.T.Theory.atom_holds g.T.Labels.make (g.T.Theory.meaning c.args.self.now.theory.now).has g.T.Map.PartialEq.eq g.met.T.Labels.equal_maps (plain_second c.args.self.now.second.now) (map plain_term c.args.node.now.parts.now) (map (λ d. map (λ s. s.items) d.now) c.args.demands.now) (option_map (λ t. plain_term t.now) c.args.term) k c.parts.ways.items) none c.parts.invariant.found
