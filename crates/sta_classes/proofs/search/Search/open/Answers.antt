use Rattle.std.proofs.Common.{◌<◌, ◌≤◌, All, length, get_or, sym, subst, arith, ◌≡◌, ◌∙◌, true, inl, inr, Contains, ap, map}
use Rattle.model_sta.specs.Least.{counts_of, rows_at}
use Rattle.sta_classes.specs.Rules.{plain_rules, meaning_of}
use Rattle.sta_classes.specs.Rows.{founds, class_rows_at, class_rows}
use Rattle.sta_classes.specs.Searched.{IsTold}
use Rattle.sta_classes.proofs.Applying.{element}
use Rattle.sta_classes.proofs.Keeping.{stopped}
use Rattle.sta_classes.proofs.Opens.{states_below, fired_by, counts_as, row_made, made_over, opened_by}
use Rattle.sta_classes.proofs.Rows.{list_at}
use Rattle.sta_classes.proofs.Turns.{more_sets, sound_offered}
use Rattle.std.proofs.lemmas.Bool.{cases_lt}
use Rattle.std.proofs.lemmas.List.{length-map}
use Rattle.model_sta.specs.Sets.{step}
use Rattle.model_sta.proofs.Reached.{same_default}
use Rattle.sta_classes.specs.Applying.{IsRules, guards_in, AreLike}
use Rattle.sta_classes.specs.Bits.{both}
use Rattle.sta_classes.specs.Pending.{IsMet}
use Rattle.model_tree.specs.Formula.{EveryAtom}
use Rattle.sta_core.specs.Machine.{plain_rule}
use Rattle.sta_classes.specs.Guards.{all_guards}
use Rattle.sta_classes.specs.Meant.{HasMoreClasses}
use Rattle.sta_classes.specs.Stop.{ClassStopsFor}
use Rattle.sta_classes.proofs.Keys.{met_at, all_told_at, told_at}
use Rattle.sta_classes.proofs.Told.{guards_fit, guards_of_all, stop_within}
use Rattle.sta_classes.proofs.search.Search.open.Goals as goal

pub cost_over-nodes-requires : goal.cost_over-nodes-requires
cost_over-nodes-requires g c = subst (λ z. All (λ k. k < length z) c.args.children.now) (sym c.deref.ensures.value) c.requires.over.children

pub numbers_at-requires : goal.numbers_at-requires
numbers_at-requires g c =
    let R = c.index-self-constructor.result in
    let is : IsRules g.T.Atom.PartialEq.eq c.args.self.now.rules.now c.args.constructor R = c.requires.ready.own_are c.args.constructor c.index-self-constructor.result (omega (arith, c.requires.over.low, c.requires.ready.many)) (sym c.index-self-constructor.is) in
    let states : c.deref-in-labels.result.now ≡ map (λ x. x.state) R.list.items = c.deref-in-labels.ensures.value ∙ ap (λ z. z.states.items) (sym c.index-self-constructor.is) ∙ is.states_are in
    let (key_is, are) = (let found = (told_at (g.T.Theory.meaning c.args.self.now.theory.now) c.args.self.now.ranks.now c.args.self.now.own.now c.args.known.now.classes.items c.args.offers.now.splits.items c.requires.under.splits c.args.constructor c.index-self-constructor.result c.index_mut-split.result.now c.number.new.self c.args.children.now c.in_ok-key.key c.in_ok-number.number (omega (arith, c.requires.over.low, c.requires.ready.many)) (omega (arith, c.requires.over.low, c.requires.under.splits.many)) c.index_mut-split.ensures.value c.requires.over.wide c.in_ok-key.ensures c.in_ok-number.ensures).told c.index-self-constructor.result c.index.result.now (sym c.index-self-constructor.is) (sym c.index.ensures) in
    subst (IsTold (g.T.Theory.meaning c.args.self.now.theory.now) c.index-self-constructor.result (class_rows_at c.args.known.now.classes.items c.args.children.now) c.in_ok-key.key) (sym (list_at c.index.result.now.told.items c.in_ok-number.number c.index-2.result.now c.deref-label-items.result.now found.0 c.index-2.ensures c.deref-label-items.ensures.value)) found.1) in
    record {
      low = states_below R.list.items c.deref-in-labels.result.now states c.args.self.now.rules.now c.args.constructor is.owned;
      first = ap length key_is ∙ length-map R.list.items _ ∙ sym (ap length states ∙ length-map R.list.items _);
      second = ap (λ t. length t.holds) c.label-item.is ∙ ap length (are.held c.labels.label-index c.label-item.result c.labels-test.true) ∙ length-map R.list.items _ ∙ sym (ap length states ∙ length-map R.list.items _);
    }

pub labels-preserved : goal.labels-preserved
labels-preserved g c =
    let is : IsRules g.T.Atom.PartialEq.eq c.args.self.now.rules.now c.args.constructor c.index-self-constructor.result = c.requires.ready.own_are c.args.constructor c.index-self-constructor.result (omega (arith, c.requires.over.low, c.requires.ready.many)) (sym c.index-self-constructor.is) in
    let are = (let found = (told_at (g.T.Theory.meaning c.args.self.now.theory.now) c.args.self.now.ranks.now c.args.self.now.own.now c.args.known.now.classes.items c.args.offers.now.splits.items c.requires.under.splits c.args.constructor c.index-self-constructor.result c.index_mut-split.result.now c.number.new.self c.args.children.now c.in_ok-key.key c.in_ok-number.number (omega (arith, c.requires.over.low, c.requires.ready.many)) (omega (arith, c.requires.over.low, c.requires.under.splits.many)) c.index_mut-split.ensures.value c.requires.over.wide c.in_ok-key.ensures c.in_ok-number.ensures).told c.index-self-constructor.result c.index.result.now (sym c.index-self-constructor.is) (sym c.index.ensures) in
    subst (IsTold (g.T.Theory.meaning c.args.self.now.theory.now) c.index-self-constructor.result (class_rows_at c.args.known.now.classes.items c.args.children.now) c.in_ok-key.key) (sym (list_at c.index.result.now.told.items c.in_ok-number.number c.index-2.result.now c.deref-label-items.result.now found.0 c.index-2.ensures c.deref-label-items.ensures.value)) found.1) in
    let there : Contains c.deref-label-items.result.now c.label-item.result = (c.labels.label-index, c.labels-test.true, sym c.label-item.is) in
    let states : c.deref-in-labels.result.now ≡ map (λ x. x.state) c.index-self-constructor.result.list.items = c.deref-in-labels.ensures.value ∙ ap (λ z. z.states.items) (sym c.index-self-constructor.is) ∙ is.states_are in
    let fired = fired_by c.index-self-constructor.result.list.items c.deref-in-labels.result.now states (both c.in_ok-key.key c.label-item.result.holds) c.in_ok-row.row c.in_ok-row.ensures.each in
    let row_is = row_made (g.T.Theory.meaning c.args.self.now.theory.now) c.args.self.now.ranks.now c.args.self.now.rules.now c.args.known.now.classes.items c.args.constructor c.index-self-constructor.result is c.args.children.now c.in_ok-key.key c.deref-label-items.result.now are c.label-item.result there c.in_ok-row.row c.in_ok-row.ensures.many fired in
    let made = made_over (g.T.Theory.meaning c.args.self.now.theory.now) c.args.self.now.ranks.now c.args.self.now.rules.now c.args.known.now.classes.items c.args.constructor c.index-self-constructor.result is c.args.children.now c.in_ok-key.key c.deref-label-items.result.now are c.cost_over-nodes.result c.label-item.result c.in_ok-row.row c.requires.over.low c.requires.over.wide c.requires.over.children there row_is (counts_as g.T.Theory.label_of c.args.known.now.classes.items c.deref.result.now c.args.children.now c.cost_over-nodes.result c.deref.ensures.value c.cost_over-nodes.ensures) in
    record {
      sound = sound_offered c.args.self.now.ranks.now (g.T.Theory.meaning c.args.self.now.theory.now).has (g.T.Theory.meaning c.args.self.now.theory.now).keeps (meaning_of g.T.Theory.atom_holds (plain_rules c.args.self.now.rules.now)) g.T.Theory.label_of c.args.known.now.classes.items c.labels.pending c.offer.new.self c.labels.invariant.sound (record { row = c.in_ok-row.row; nodes = c.cost_over-nodes.result; constructor = c.args.constructor; label = g.T.Theory.label_of c.label-item.result.value; children = c.args.children.now }) c.in_ok-offer.ensures.0 c.in_ok-offer.ensures.1 made (λ k low. subst (λ n. get_or (counts_of (founds g.T.Theory.label_of c.args.known.now.classes.items)) k 0 ≤ n) (sym (counts_as g.T.Theory.label_of c.args.known.now.classes.items c.deref.result.now c.args.children.now c.cost_over-nodes.result c.deref.ensures.value c.cost_over-nodes.ensures)) (c.requires.over.above k low));
      better = λ q n m. c.in_ok-offer.ensures.1.better q n (c.labels.invariant.better q n m);
      met = λ i r low inside at. elim (cases_lt i c.labels.label-index) [
        | inl below ↦ c.in_ok-offer.ensures.1.better _ _ (c.labels.invariant.met i r below inside at)
        | inr past ↦
            let same_place : i ≡ c.labels.label-index = omega (arith, past, low) in
            let same : c.label-item.result ≡ r = c.label-item.is ∙ same_default c.deref-label-items.result.now c.labels.label-index c.label-item.result r c.labels-test.true ∙ ap (λ k. get_or c.deref-label-items.result.now k r) (sym same_place) ∙ at in
            subst (λ z. IsMet c.offer.new.self (step (meaning_of g.T.Theory.atom_holds (plain_rules c.args.self.now.rules.now)) c.args.constructor (g.T.Theory.label_of z.value) (rows_at (founds g.T.Theory.label_of c.args.known.now.classes.items) c.args.children.now)) c.cost_over-nodes.result) same
            (subst (λ q. IsMet c.offer.new.self q c.cost_over-nodes.result) made.row_is c.in_ok-offer.ensures.1.met)
      ];
    }

pub offer-requires-clause-kept : goal.offer-requires-clause-kept
offer-requires-clause-kept g c = c.labels.invariant.sound.kept

pub labels-init : goal.labels-init
labels-init g c = record { sound = c.requires.under.sound; better = λ q n m. m; met = λ i r low inside at. absurd (omega (arith, low)) }

pub bounds-self-constructor : goal.bounds-self-constructor
bounds-self-constructor g c = omega (arith, c.requires.over.low, c.requires.ready.many)

pub returns : goal.returns
returns g c = record {
  under = record { sound = c.labels.invariant.sound; kinds = c.requires.under.kinds; splits = (told_at (g.T.Theory.meaning c.args.self.now.theory.now) c.args.self.now.ranks.now c.args.self.now.own.now c.args.known.now.classes.items c.args.offers.now.splits.items c.requires.under.splits c.args.constructor c.index-self-constructor.result c.index_mut-split.result.now c.number.new.self c.args.children.now c.in_ok-key.key c.in_ok-number.number (omega (arith, c.requires.over.low, c.requires.ready.many)) (omega (arith, c.requires.over.low, c.requires.under.splits.many)) c.index_mut-split.ensures.value c.requires.over.wide c.in_ok-key.ensures c.in_ok-number.ensures).splits; few = omega (arith, c.if-len-self.false, c.len.ensures.len) };
  better = c.labels.invariant.better;
  offered =
      let is : IsRules g.T.Atom.PartialEq.eq c.args.self.now.rules.now c.args.constructor c.index-self-constructor.result = c.requires.ready.own_are c.args.constructor c.index-self-constructor.result (omega (arith, c.requires.over.low, c.requires.ready.many)) (sym c.index-self-constructor.is) in
      opened_by (g.T.Theory.meaning c.args.self.now.theory.now) c.args.self.now.ranks.now c.args.self.now.rules.now c.args.known.now.classes.items c.args.constructor c.index-self-constructor.result is c.args.children.now c.in_ok-key.key c.deref-label-items.result.now ((let found = (told_at (g.T.Theory.meaning c.args.self.now.theory.now) c.args.self.now.ranks.now c.args.self.now.own.now c.args.known.now.classes.items c.args.offers.now.splits.items c.requires.under.splits c.args.constructor c.index-self-constructor.result c.index_mut-split.result.now c.number.new.self c.args.children.now c.in_ok-key.key c.in_ok-number.number (omega (arith, c.requires.over.low, c.requires.ready.many)) (omega (arith, c.requires.over.low, c.requires.under.splits.many)) c.index_mut-split.ensures.value c.requires.over.wide c.in_ok-key.ensures c.in_ok-number.ensures).told c.index-self-constructor.result c.index.result.now (sym c.index-self-constructor.is) (sym c.index.ensures) in
      subst (IsTold (g.T.Theory.meaning c.args.self.now.theory.now) c.index-self-constructor.result (class_rows_at c.args.known.now.classes.items c.args.children.now) c.in_ok-key.key) (sym (list_at c.index.result.now.told.items c.in_ok-number.number c.index-2.result.now c.deref-label-items.result.now found.0 c.index-2.ensures c.deref-label-items.ensures.value)) found.1)) c.labels.pending c.cost_over-nodes.result (counts_as g.T.Theory.label_of c.args.known.now.classes.items c.deref.result.now c.args.children.now c.cost_over-nodes.result c.deref.ensures.value c.cost_over-nodes.ensures)
      (λ i t low at. c.labels.invariant.met i t (omega (arith, low, c.labels-test.false)) low at);
}

pub returns-then-len-self : goal.returns-then-len-self
returns-then-len-self g c = more_sets c.args.self.now.ranks.now (g.T.Theory.meaning c.args.self.now.theory.now).has (g.T.Theory.meaning c.args.self.now.theory.now).keeps (meaning_of g.T.Theory.atom_holds (plain_rules c.args.self.now.rules.now)) g.T.Theory.label_of c.args.known.now.classes.items c.labels.pending c.labels.pending c.labels.invariant.sound c.args.self.now.most (omega (arith, c.if-len-self.true, c.len.ensures.len))

pub returns-in_err-key : goal.returns-in_err-key
returns-in_err-key g c = stopped c.from_residual.result _ _ _ c.from_residual.ensures.1 tt

pub number-requires : goal.number-requires
number-requires g c = record {
  fit = let is : IsRules g.T.Atom.PartialEq.eq c.args.self.now.rules.now c.args.constructor c.index-self-constructor.result = c.requires.ready.own_are c.args.constructor c.index-self-constructor.result (omega (arith, c.requires.over.low, c.requires.ready.many)) (sym c.index-self-constructor.is) in
      record {
        fit = subst (λ R. All (λ x. EveryAtom (g.T.Theory.atom_fits c.args.self.now.theory.now) (plain_rule x.rule.now).guard) R.list.items) c.index-self-constructor.is
            (guards_fit c.args.self.now.rules.now c.args.constructor c.index-self-constructor.result.list.items is.owned (g.T.Theory.atom_fits c.args.self.now.theory.now) c.requires.ready.fit);
        guarded = subst (λ R. length R.guarded ≡ length R.list.items) c.index-self-constructor.is (ap length is.guarded_are ∙ length-map _ _);
        likes = subst (λ R. AreLike g.T.Atom.PartialEq.eq R.list.items R.likes.items) c.index-self-constructor.is is.alike;
      };
  many = let is : IsRules g.T.Atom.PartialEq.eq c.args.self.now.rules.now c.args.constructor c.index-self-constructor.result = c.requires.ready.own_are c.args.constructor c.index-self-constructor.result (omega (arith, c.requires.over.low, c.requires.ready.many)) (sym c.index-self-constructor.is) in
      let met = met_at (g.T.Theory.meaning c.args.self.now.theory.now) c.args.self.now.ranks.now c.args.self.now.own.now (class_rows c.args.known.now.classes.items) c.args.offers.now.splits.items c.requires.under.splits c.args.constructor c.index-self-constructor.result c.index_mut-split.result.now (omega (arith, c.requires.over.low, c.requires.ready.many)) (omega (arith, c.requires.over.low, c.requires.under.splits.many)) c.index_mut-split.ensures.value (length c.args.children.now) c.requires.over.wide in
      ap length (c.in_ok-key.ensures (class_rows c.args.known.now.classes.items) met) ∙ length-map _ _ ∙ sym (subst (λ R. length R.guarded ≡ length R.list.items) c.index-self-constructor.is (ap length is.guarded_are ∙ length-map _ _));
  told = all_told_at (g.T.Theory.meaning c.args.self.now.theory.now) c.args.self.now.ranks.now c.args.self.now.own.now (class_rows c.args.known.now.classes.items) c.args.offers.now.splits.items c.requires.under.splits c.args.constructor c.index-self-constructor.result c.index_mut-split.result.now (omega (arith, c.requires.over.low, c.requires.ready.many)) (omega (arith, c.requires.over.low, c.requires.under.splits.many)) c.index_mut-split.ensures.value;
}

pub key-requires : goal.key-requires
key-requires g c = record {
  all = let is : IsRules g.T.Atom.PartialEq.eq c.args.self.now.rules.now c.args.constructor c.index-self-constructor.result = c.requires.ready.own_are c.args.constructor c.index-self-constructor.result (omega (arith, c.requires.over.low, c.requires.ready.many)) (sym c.index-self-constructor.is) in
      subst (λ R. R.all ≡ map (λ x. true) R.list.items) c.index-self-constructor.is is.all_are;
  known = let met = met_at (g.T.Theory.meaning c.args.self.now.theory.now) c.args.self.now.ranks.now c.args.self.now.own.now (class_rows c.args.known.now.classes.items) c.args.offers.now.splits.items c.requires.under.splits c.args.constructor c.index-self-constructor.result c.index_mut-split.result.now (omega (arith, c.requires.over.low, c.requires.ready.many)) (omega (arith, c.requires.over.low, c.requires.under.splits.many)) c.index_mut-split.ensures.value (length c.args.children.now) c.requires.over.wide in
      subst (λ n. All (λ k. k < n) c.args.children.now) (sym (met.many ∙ length-map c.args.known.now.classes.items (λ z. z.row))) c.requires.over.children;
  met = (class_rows c.args.known.now.classes.items, met_at (g.T.Theory.meaning c.args.self.now.theory.now) c.args.self.now.ranks.now c.args.self.now.own.now (class_rows c.args.known.now.classes.items) c.args.offers.now.splits.items c.requires.under.splits c.args.constructor c.index-self-constructor.result c.index_mut-split.result.now (omega (arith, c.requires.over.low, c.requires.ready.many)) (omega (arith, c.requires.over.low, c.requires.under.splits.many)) c.index_mut-split.ensures.value (length c.args.children.now) c.requires.over.wide);
}

pub index_mut-split-requires : goal.index_mut-split-requires
index_mut-split-requires g c = omega (arith, c.requires.over.low, c.requires.under.splits.many, c.args.offers.now.splits.ok.0)

pub returns-in_err-number : goal.returns-in_err-number
returns-in_err-number g c =
    let is : IsRules g.T.Atom.PartialEq.eq c.args.self.now.rules.now c.args.constructor c.index-self-constructor.result = c.requires.ready.own_are c.args.constructor c.index-self-constructor.result (omega (arith, c.requires.over.low, c.requires.ready.many)) (sym c.index-self-constructor.is) in
    stopped c.from_residual-in_err-number.result _ _ c.in_err-number.field-0.0 c.from_residual-in_err-number.ensures.1
    (stop_within (guards_in c.index-self-constructor.result.list.items) (all_guards (plain_rules c.args.self.now.rules.now)) (λ P h. guards_of_all c.args.self.now.rules.now c.args.constructor c.index-self-constructor.result.list.items is.owned P h) (g.T.Theory.meaning c.args.self.now.theory.now) g.T.Atom.PartialEq.eq (g.met.T.Theory.equal_is_own c.args.self.now.theory.now) g.met.T.Atom.Eq.laws (HasMoreClasses (g.T.Theory.meaning c.args.self.now.theory.now) (record { ranks = c.args.self.now.ranks.now; rules = plain_rules c.args.self.now.rules.now }) c.args.self.now.most) c.in_err-number.field-0.0
    (subst (λ R. ClassStopsFor (g.T.Theory.meaning c.args.self.now.theory.now) ⊥ (guards_in R.list.items) c.in_err-number.field-0.0) (sym c.index-self-constructor.is) c.in_err-number.ensures))

pub returns-in_err-row : goal.returns-in_err-row
returns-in_err-row g c = stopped c.from_residual-in_err-row.result _ _ _ c.from_residual-in_err-row.ensures.1 tt

pub returns-in_err-offer : goal.returns-in_err-offer
returns-in_err-offer g c = stopped c.from_residual-in_err-offer.result _ _ _ c.from_residual-in_err-offer.ensures.1 tt

pub index-requires : goal.index-requires
index-requires g c = omega (arith, c.requires.over.low, (told_at (g.T.Theory.meaning c.args.self.now.theory.now) c.args.self.now.ranks.now c.args.self.now.own.now c.args.known.now.classes.items c.args.offers.now.splits.items c.requires.under.splits c.args.constructor c.index-self-constructor.result c.index_mut-split.result.now c.number.new.self c.args.children.now c.in_ok-key.key c.in_ok-number.number (omega (arith, c.requires.over.low, c.requires.ready.many)) (omega (arith, c.requires.over.low, c.requires.under.splits.many)) c.index_mut-split.ensures.value c.requires.over.wide c.in_ok-key.ensures c.in_ok-number.ensures).splits.many, c.args.offers.now.splits.ok.0)

pub index-requires-2 : goal.index-requires-2
index-requires-2 g c =
    let (own, at) = element c.args.self.now.own.now c.args.constructor (omega (arith, c.requires.over.low, c.requires.ready.many)) in
    omega (arith, ((told_at (g.T.Theory.meaning c.args.self.now.theory.now) c.args.self.now.ranks.now c.args.self.now.own.now c.args.known.now.classes.items c.args.offers.now.splits.items c.requires.under.splits c.args.constructor c.index-self-constructor.result c.index_mut-split.result.now c.number.new.self c.args.children.now c.in_ok-key.key c.in_ok-number.number (omega (arith, c.requires.over.low, c.requires.ready.many)) (omega (arith, c.requires.over.low, c.requires.under.splits.many)) c.index_mut-split.ensures.value c.requires.over.wide c.in_ok-key.ensures c.in_ok-number.ensures).told own c.index.result.now at (sym c.index.ensures)).0, c.index.result.now.told.ok)
