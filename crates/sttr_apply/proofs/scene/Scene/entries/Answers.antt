use Rattle.std.proofs.Common.{◌≡◌, ◌<◌, ◌+◌, ◌++◌, ◌∷◌, [], ℕ, refl, length, map, get_or, take_all, sym, ap, ap₂, subst, ◌∙◌, arith}
use Rattle.std.specs.List.{All}
use Rattle.std.proofs.lemmas.List.{length-map, map-append}
use Rattle.std.proofs.lemmas.List.Elements.{All-nil}
use Rattle.model_tree.specs.Tree.{label_of, children_of, relabel}
use Rattle.model_sttr.specs.Terms.{with_maps}
use Rattle.model_sttr.specs.Transducer.{out_rules}
use Rattle.sta_core.specs.Sta.{automaton_of}
use Rattle.sttr_core.specs.Fits.{EveryMap}
use Rattle.sttr_core.specs.Machine.{transducer_of}
use Rattle.sttr_core.specs.Terms.{plain_term}
use Rattle.apply_laws.specs.Found.{listed}
use Rattle.apply_laws.specs.Reached.{terms_of}
use Rattle.apply_laws.specs.Terms.{AreTermsFound, IsCallFound}
use Rattle.sttr_apply.specs.Calls.{calls_of, asks_in, uses_in}
use Rattle.sttr_apply.specs.Labels.{keeps, Outside}
use Rattle.sttr_apply.specs.Plain.{found_of, out_cut}
use Rattle.sttr_apply.specs.Solve.{IsEntry}
use Rattle.model_sta.proofs.Reached.{same_default}
use Rattle.sttr_apply.proofs.Placed.{all_push}
use Rattle.sttr_apply.proofs.Gathered.{one_taken, sum_dropped}
use Rattle.sttr_apply.proofs.Asked.{same_at, state_found, stop_here}
use Rattle.sttr_apply.proofs.scene.Scene.entries.Goals as goal

same_next : (i : ℕ) → i + 1 ≡ i + 1
same_next i = refl

pub bounds-lists-i : goal.bounds-lists-i
bounds-lists-i g c =
    let many = ap length c.requires.terms in
    let left = length-map c.args.lists.now (λ those. map (λ t. with_maps g.T.Labels.make (plain_term t.now)) those.items) in
    let right = length-map c.args.asks.now (λ a. terms_of (automaton_of g.T.Theory.atom_holds c.args.self.now.sttr.now.looks) (relabel g.T.Theory.label_of c.args.place.now.tree.now) (out_rules (transducer_of g.T.Theory.atom_holds g.T.Labels.make c.args.self.now.sttr.now) a.state)) in
    omega (arith, many, left, right, c.asks.invariant.at, c.asks-test.true)

pub terms_found-requires-clause-maps : goal.terms_found-requires-clause-maps
terms_found-requires-clause-maps g c =
    let many = ap length c.requires.terms in
    let left = length-map c.args.lists.now (λ those. map (λ t. with_maps g.T.Labels.make (plain_term t.now)) those.items) in
    let right = length-map c.args.asks.now (λ a. terms_of (automaton_of g.T.Theory.atom_holds c.args.self.now.sttr.now.looks) (relabel g.T.Theory.label_of c.args.place.now.tree.now) (out_rules (transducer_of g.T.Theory.atom_holds g.T.Labels.make c.args.self.now.sttr.now) a.state)) in
    let low : c.asks.i < length c.args.lists.now = omega (arith, many, left, right, c.asks.invariant.at, c.asks-test.true) in
    let maps : All (λ t. EveryMap (g.T.Labels.map_fits c.args.self.now.theory.now) (plain_term t.now)) c.index-lists-i.result.items = subst (λ those. All (λ t. EveryMap (g.T.Labels.map_fits c.args.self.now.theory.now) (plain_term t.now)) those.items) (sym c.index-lists-i.is) (c.requires.maps c.asks.i c.index-lists-i.result low) in
    subst (All (λ t. EveryMap (g.T.Labels.map_fits c.args.self.now.theory.now) (plain_term t.now))) (sym c.deref.ensures.value) maps

pub terms_found-requires-clause-uses : goal.terms_found-requires-clause-uses
terms_found-requires-clause-uses g c =
    let many = ap length c.requires.terms in
    let left = length-map c.args.lists.now (λ those. map (λ t. with_maps g.T.Labels.make (plain_term t.now)) those.items) in
    let right = length-map c.args.asks.now (λ a. terms_of (automaton_of g.T.Theory.atom_holds c.args.self.now.sttr.now.looks) (relabel g.T.Theory.label_of c.args.place.now.tree.now) (out_rules (transducer_of g.T.Theory.atom_holds g.T.Labels.make c.args.self.now.sttr.now) a.state)) in
    let low : c.asks.i < length c.args.lists.now = omega (arith, many, left, right, c.asks.invariant.at, c.asks-test.true) in
    λ q k l. omega (arith, c.asks.invariant.has q k l, sum_dropped (λ those. map (λ t. plain_term t.now) those.items) (calls_of q k) c.args.lists.now c.asks.i (c.asks.i + 1) c.index-lists-i.result (same_next c.asks.i) low c.index-lists-i.is, ap (λ ts. calls_of q k (map (λ t. plain_term t.now) ts)) c.deref.ensures.value)

pub returns-in-TooMuch-clause-stop : goal.returns-in-TooMuch-clause-stop
returns-in-TooMuch-clause-stop g c =
    stop_here g.T.Theory.label_of g.T.Value.Ord.cmp g.met.T.Value.Ord.total g.met.T.Theory.equal_values (transducer_of g.T.Theory.atom_holds g.T.Labels.make c.args.self.now.sttr.now) c.args.place.now.tree.now c.args.asks.now (get_or c.args.asks.now c.asks.ask-index (record { state = 0; uses = 0 })) (map (λ t. with_maps g.T.Labels.make (plain_term t.now)) c.deref.result.now) c.in-TooMuch.load c.requires.some (c.asks.ask-index, c.asks-test.true, sym (same_default c.args.asks.now c.asks.ask-index (record { state = 0; uses = 0 }) (get_or c.args.asks.now c.asks.ask-index (record { state = 0; uses = 0 })) c.asks-test.true))
    (ap (map (λ t. with_maps g.T.Labels.make (plain_term t.now))) c.deref.ensures.value ∙ same_at (λ those. map (λ t. with_maps g.T.Labels.make (plain_term t.now)) those.items) (λ a. terms_of (automaton_of g.T.Theory.atom_holds c.args.self.now.sttr.now.looks) (relabel g.T.Theory.label_of c.args.place.now.tree.now) (out_rules (transducer_of g.T.Theory.atom_holds g.T.Labels.make c.args.self.now.sttr.now) a.state)) c.args.lists.now c.args.asks.now c.asks.i c.index-lists-i.result (get_or c.args.asks.now c.asks.ask-index (record { state = 0; uses = 0 })) c.requires.terms (omega (arith, c.asks.invariant.at, c.asks-test.true)) c.index-lists-i.is ((same_default c.args.asks.now c.asks.ask-index (record { state = 0; uses = 0 }) (get_or c.args.asks.now c.asks.ask-index (record { state = 0; uses = 0 })) c.asks-test.true) ∙ ap (λ k. get_or c.args.asks.now k (get_or c.args.asks.now c.asks.ask-index (record { state = 0; uses = 0 }))) (sym c.asks.invariant.at)))
    (subst (λ r. AreTermsFound g.T.Theory.label_of g.T.Value.Ord.cmp keeps Outside (transducer_of g.T.Theory.atom_holds g.T.Labels.make c.args.self.now.sttr.now) (children_of c.args.place.now.tree.now) (g.T.Theory.label_of (label_of c.args.place.now.tree.now)) (map (λ t. with_maps g.T.Labels.make (plain_term t.now)) c.deref.result.now) (found_of r)) c.in-TooMuch.is c.in_ok-load.ensures.found)

pub asks-init : goal.asks-init
asks-init g c = record {
  at = refl;
  entries = subst (All (IsEntry (transducer_of g.T.Theory.atom_holds g.T.Labels.make c.args.self.now.sttr.now) g.T.Theory.label_of g.T.Value.Ord.cmp c.args.place.now.tree.now)) (sym c.in_ok-entries.ensures.items) (All-nil (IsEntry (transducer_of g.T.Theory.atom_holds g.T.Labels.make c.args.self.now.sttr.now) g.T.Theory.label_of g.T.Value.Ord.cmp c.args.place.now.tree.now));
  uses = ap uses_in c.in_ok-entries.ensures.items;
  table = c.requires.table;
  has = c.requires.uses;
}

pub asks-preserved : goal.asks-preserved
asks-preserved g c =
    let many = ap length c.requires.terms in
    let left = length-map c.args.lists.now (λ those. map (λ t. with_maps g.T.Labels.make (plain_term t.now)) those.items) in
    let right = length-map c.args.asks.now (λ a. terms_of (automaton_of g.T.Theory.atom_holds c.args.self.now.sttr.now.looks) (relabel g.T.Theory.label_of c.args.place.now.tree.now) (out_rules (transducer_of g.T.Theory.atom_holds g.T.Labels.make c.args.self.now.sttr.now) a.state)) in
    let low : c.asks.i < length c.args.lists.now = omega (arith, many, left, right, c.asks.invariant.at, c.asks-test.true) in
    record {
      at = omega (arith, c.asks.invariant.at);
      entries = all_push (IsEntry (transducer_of g.T.Theory.atom_holds g.T.Labels.make c.args.self.now.sttr.now) g.T.Theory.label_of g.T.Value.Ord.cmp c.args.place.now.tree.now) c.asks.entries.items _ _ c.asks.invariant.entries
          (subst (λ q. IsCallFound g.T.Theory.label_of g.T.Value.Ord.cmp keeps Outside (transducer_of g.T.Theory.atom_holds g.T.Labels.make c.args.self.now.sttr.now) q c.args.place.now.tree.now (listed (map out_cut c.in-Listed.listing.outs.items) c.in-Listed.listing.far)) (ap (λ a. a.state) (same_default c.args.asks.now c.asks.ask-index (record { state = 0; uses = 0 }) _ c.asks-test.true))
          (state_found g.T.Theory.label_of g.T.Value.Ord.cmp g.met.T.Value.Ord.total g.met.T.Theory.equal_values (transducer_of g.T.Theory.atom_holds g.T.Labels.make c.args.self.now.sttr.now) c.args.place.now.tree.now (get_or c.args.asks.now c.asks.ask-index (record { state = 0; uses = 0 })).state (map (λ t. with_maps g.T.Labels.make (plain_term t.now)) c.deref.result.now) (listed (map out_cut c.in-Listed.listing.outs.items) c.in-Listed.listing.far)
          (ap (map (λ t. with_maps g.T.Labels.make (plain_term t.now))) c.deref.ensures.value ∙ same_at (λ those. map (λ t. with_maps g.T.Labels.make (plain_term t.now)) those.items) (λ a. terms_of (automaton_of g.T.Theory.atom_holds c.args.self.now.sttr.now.looks) (relabel g.T.Theory.label_of c.args.place.now.tree.now) (out_rules (transducer_of g.T.Theory.atom_holds g.T.Labels.make c.args.self.now.sttr.now) a.state)) c.args.lists.now c.args.asks.now c.asks.i c.index-lists-i.result (get_or c.args.asks.now c.asks.ask-index (record { state = 0; uses = 0 })) c.requires.terms (omega (arith, c.asks.invariant.at, c.asks-test.true)) c.index-lists-i.is ((same_default c.args.asks.now c.asks.ask-index (record { state = 0; uses = 0 }) (get_or c.args.asks.now c.asks.ask-index (record { state = 0; uses = 0 })) c.asks-test.true) ∙ ap (λ k. get_or c.args.asks.now k (get_or c.args.asks.now c.asks.ask-index (record { state = 0; uses = 0 }))) (sym c.asks.invariant.at)))
          (subst (λ r. AreTermsFound g.T.Theory.label_of g.T.Value.Ord.cmp keeps Outside (transducer_of g.T.Theory.atom_holds g.T.Labels.make c.args.self.now.sttr.now) (children_of c.args.place.now.tree.now) (g.T.Theory.label_of (label_of c.args.place.now.tree.now)) (map (λ t. with_maps g.T.Labels.make (plain_term t.now)) c.deref.result.now) (found_of r)) c.in-Listed.is c.in_ok-load.ensures.found)))
          c.in_ok-push-in-Listed.ensures.items;
      uses = ap uses_in c.in_ok-push-in-Listed.ensures.items ∙ (map-append (λ e. (e.state, e.uses)) c.asks.entries.items _
          ∙ (ap₂ (λ xs y. xs ++ y ∷ []) c.asks.invariant.uses (ap (λ a. (a.state, a.uses)) (same_default c.args.asks.now c.asks.ask-index _ (record { state = 0; uses = 0 }) c.asks-test.true))
          ∙ sym (one_taken (λ a. (a.state, a.uses)) c.args.asks.now c.asks.ask-index (get_or c.args.asks.now c.asks.ask-index (record { state = 0; uses = 0 })) c.asks-test.true (same_default c.args.asks.now c.asks.ask-index (record { state = 0; uses = 0 }) (get_or c.args.asks.now c.asks.ask-index (record { state = 0; uses = 0 })) c.asks-test.true))));
      table = c.in_ok-load.ensures.table;
      has = λ q k l.
          let old = c.asks.invariant.has q k (omega (arith, l, c.in_ok-load.ensures.table.width, c.asks.invariant.table.width)) in
          let made = c.in_ok-load.ensures.uses q k (omega (arith, l, c.in_ok-load.ensures.table.width, c.asks.invariant.table.width)) in
          omega (arith, old, made, sum_dropped (λ those. map (λ t. plain_term t.now) those.items) (calls_of q k) c.args.lists.now c.asks.i (c.asks.i + 1) c.index-lists-i.result (same_next c.asks.i) low c.index-lists-i.is, ap (λ ts. calls_of q k (map (λ t. plain_term t.now) ts)) c.deref.ensures.value);
    }

pub returns-clause-uses : goal.returns-clause-uses
returns-clause-uses g c = c.asks.invariant.uses ∙ ap asks_in (take_all c.asks.ask-index c.args.asks.now c.asks-test.false)
