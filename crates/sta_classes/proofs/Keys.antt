-- What is known of a constructor's rules.
use Rattle.std.proofs.Common.{ℕ, zero, suc, Vec, Global, ◌≡◌, ◌<◌, ◌≤◌, ◌+◌, ◌&&◌, Bool, List, [], ◌∷◌, ◌++◌, get_or, set, length, map, take, refl, sym, ap, ap₂, subst, ◌∙◌, arith, inl, inr}
use Rattle.std.proofs.lemmas.Bool.{cases_lt, cases_eq}
use Rattle.std.proofs.lemmas.List.{length_push, length-set, get_or-set_same, get_or-set_other, length-map, map-append, take_more}
use Rattle.model_tree.specs.Label.{Label}
use Rattle.model_sta.specs.Sets.{Row, rows_meet}
use Rattle.model_sta.proofs.Reached.{same_default}
use Rattle.label_core.specs.Meaning.{Meaning}
use Rattle.sta_core.specs.Machine.{plain_rule}
use Rattle.sta_classes.specs.Applying.{meets_at}
use Rattle.sta_classes.specs.Bits.{both}
use Rattle.sta_classes.specs.Rows.{class_rows, lists_of}
use Rattle.sta_classes.specs.Searched.{AreSplit, IsTold, AreToldAt}
use Rattle.sta_classes.specs.Splits.{AreFresh, NextSplits, IsMetBy, AreMet, AreTold, AreAllTold, IsUnder}
use Rattle.sta_classes.specs.declared.class.Class.{Class}
use Rattle.sta_classes.specs.declared.rules.Owned.{Owned}
use Rattle.sta_classes.specs.declared.rules.Rules.{Rules}
use Rattle.sta_classes.specs.declared.splits.Splits.{Splits}
use Rattle.sta_classes.specs.declared.splits.Told.{Told}
use Rattle.sta_theory.proofs.Asked.{meet_more}
use Rattle.sta_classes.proofs.Applying.{element}
use Rattle.sta_classes.proofs.Meet.{both_maps}
use Rattle.sta_classes.proofs.Places.{old_at, new_at}
use Rattle.sta_classes.proofs.Rows.{lists_push, list_at}

module _ {A : Type 0} (list : List (Owned A)) where
  module _ (q : Row) where
    pub met_none : (made : List Row) → made ≡ [] → IsMetBy list 0 q made
    met_none made e = record { many = ap length e; each = λ j low. absurd (omega (arith, low)) }

    pub met_more : (j : ℕ) (old new : List Row) (r : Row) → new ≡ old ++ r ∷ [] → r ≡ map (λ x. meets_at j q (plain_rule x.rule.now)) list → IsMetBy list j q old → IsMetBy list (j + 1) q new
    met_more j old new r e is h = record {
      many = ap length e ∙ length_push old r ∙ ap (λ n. n + 1) h.many;
      each = λ i low. elim (cases_lt i j) [
        | inl before ↦ ap (λ l. get_or l i []) e ∙ old_at old r [] i (omega (arith, before, h.many)) ∙ h.each i before
        | inr past ↦
            let here : i ≡ j = omega (arith, past, low) in
            ap (λ l. get_or l i []) e ∙ new_at old r [] i (here ∙ sym h.many) ∙ is ∙ ap (λ k. map (λ x. meets_at k q (plain_rule x.rule.now)) list) (sym here)
      ];
    }

  -- one more class
  pub met_class : {G : Type 0} (places : ℕ) (rows : List Row) (q : Row) (old new : List (Vec Row G)) (v : Vec Row G) → new ≡ old ++ v ∷ [] → IsMetBy list places q v.items → AreMet list places rows old → AreMet list places (rows ++ q ∷ []) new
  met_class places rows q old new v e is h = record {
    many = ap length e ∙ length_push old v ∙ ap (λ n. n + 1) h.many ∙ sym (length_push rows q);
    each = λ k low. elim (cases_lt k (length rows)) [
      | inl before ↦
          subst (λ z. IsMetBy list places z (get_or (lists_of new) k [])) (sym (old_at rows q [] k before))
          (subst (λ z. IsMetBy list places (get_or rows k []) z) (sym (ap (λ l. get_or l k []) (ap lists_of e ∙ lists_push old v) ∙ old_at (lists_of old) v.items [] k (omega (arith, before, h.many, length-map old (λ w. w.items))))) (h.each k before))
      | inr past ↦
          let here : k ≡ length rows = omega (arith, past, low, length_push rows q) in
          subst (λ z. IsMetBy list places z (get_or (lists_of new) k [])) (sym (new_at rows q [] k here))
          (subst (λ z. IsMetBy list places q z) (sym (ap (λ l. get_or l k []) (ap lists_of e ∙ lists_push old v) ∙ new_at (lists_of old) v.items [] k (here ∙ sym h.many ∙ sym (length-map old (λ w. w.items))))) is)
    ];
  }

  -- one more child
  pub key_more : (rows : List Row) (ks : List ℕ) (i k : ℕ) (old new other : Row) → i < length ks → k ≡ get_or ks i k → new ≡ both old other → other ≡ map (λ x. meets_at i (get_or rows k []) (plain_rule x.rule.now)) list
      → old ≡ map (λ x. rows_meet (map (λ n. get_or rows n []) (take i ks)) (plain_rule x.rule.now).demands) list → new ≡ map (λ x. rows_meet (map (λ n. get_or rows n []) (take (i + 1) ks)) (plain_rule x.rule.now).demands) list
  key_more rows ks i k old new other low at e is h =
      let qs = map (λ n. get_or rows n []) (take i ks) in
      let many : length qs ≡ i = length-map (take i ks) (λ n. get_or rows n []) ∙ taken ks i (omega (arith, low)) in
      e ∙ ap₂ both h is ∙ both_maps (λ x. rows_meet qs (plain_rule x.rule.now).demands) (λ x. meets_at i (get_or rows k []) (plain_rule x.rule.now)) list
      ∙ (λ j. map (λ x. (ap (λ n. rows_meet qs (plain_rule x.rule.now).demands && meets_at n (get_or rows k []) (plain_rule x.rule.now)) (sym many) ∙ sym (meet_more qs (get_or rows k []) (plain_rule x.rule.now).demands)) j) list)
      ∙ ap (λ z. map (λ x. rows_meet z (plain_rule x.rule.now).demands) list)
      (sym (ap (map (λ n. get_or rows n [])) (take_more ks i k low ∙ ap (λ z. take i ks ++ z ∷ []) (sym at)) ∙ map-append (λ n. get_or rows n []) (take i ks) (k ∷ [])))
    where
      taken : (ms : List ℕ) (n : ℕ) → n ≤ length ms → length (take n ms) ≡ n
      taken ms zero l = refl
      taken [] (suc n) l = absurd (omega arith)
      taken (m ∷ ms) (suc n) l = ap suc (taken ms n (omega arith))

  module _ {G : Type 0} (places : ℕ) (rows : List Row) (met : List (Vec Row G)) (m : AreMet list places rows met) (k : ℕ) (v : Vec Row G) (low : k < length met) (at : v ≡ get_or met k v) where
    row_at : v.items ≡ get_or (lists_of met) k []
    row_at = list_at met k v v.items low at refl

    -- the rules that a class meets at a place
    pub met_wide : length v.items ≡ places
    met_wide = ap length row_at ∙ (m.each k (omega (arith, low, m.many))).many

    pub met_row : (j : ℕ) (r : Row) → j < places → r ≡ get_or v.items j r → r ≡ map (λ x. meets_at j (get_or rows k []) (plain_rule x.rule.now)) list
    met_row j r j_low is = is ∙ same_default v.items j r [] (omega (arith, j_low, met_wide)) ∙ ap (λ l. get_or l j []) row_at ∙ (m.each k (omega (arith, low, m.many))).each j j_low

module _ {A V W : Type 0} {label_of : V → Label} {holds : A → Label → Bool} (M : Meaning label_of holds W) (list : List (Owned A)) where
  -- one more set of rules
  pub all_told_more : (old new : Splits V) (row : Row) (v : Vec (Told V) Global) → new.sets.keys ≡ old.sets.keys ++ row ∷ [] → new.told.items ≡ old.told.items ++ v ∷ [] → AreTold M list row v.items → AreAllTold M list old → AreAllTold M list new
  all_told_more old new row v keys told is h = record {
    many = ap length told ∙ length_push old.told.items v ∙ ap (λ n. n + 1) h.many ∙ sym (ap length keys ∙ length_push old.sets.keys row);
    each = λ i low. elim (cases_lt i (length old.sets.keys)) [
      | inl before ↦
          subst (λ z. AreTold M list z (get_or (lists_of new.told.items) i [])) (sym (ap (λ l. get_or l i []) keys ∙ old_at old.sets.keys row [] i before))
          (subst (λ z. AreTold M list (get_or old.sets.keys i []) z) (sym (ap (λ l. get_or l i []) (ap lists_of told ∙ lists_push old.told.items v) ∙ old_at (lists_of old.told.items) v.items [] i (omega (arith, before, h.many, length-map old.told.items (λ w. w.items))))) (h.each i before))
      | inr past ↦
          let here : i ≡ length old.sets.keys = omega (arith, past, low, ap length keys, length_push old.sets.keys row) in
          subst (λ z. AreTold M list z (get_or (lists_of new.told.items) i [])) (sym (ap (λ l. get_or l i []) keys ∙ new_at old.sets.keys row [] i here))
          (subst (λ z. AreTold M list row z) (sym (ap (λ l. get_or l i []) (ap lists_of told ∙ lists_push old.told.items v) ∙ new_at (lists_of old.told.items) v.items [] i (here ∙ sym h.many ∙ sym (length-map old.told.items (λ w. w.items))))) is)
    ];
  }

  pub all_told_same : (old new : Splits V) → new.sets.keys ≡ old.sets.keys → new.told ≡ old.told → AreAllTold M list old → AreAllTold M list new
  all_told_same old new keys told h = record {
    many = ap (λ v. length v.items) told ∙ h.many ∙ sym (ap length keys);
    each = λ i low.
        subst (λ z. AreTold M list z (get_or (lists_of new.told.items) i [])) (sym (ap (λ l. get_or l i []) keys))
        (subst (λ z. AreTold M list (get_or old.sets.keys i []) (get_or (lists_of z.items) i [])) (sym told) (h.each i (omega (arith, low, ap length keys))));
  }

  pub told_numbered : (s : Splits V) → AreAllTold M list s → (number : ℕ) (row : Row) → number < length s.sets.keys → get_or s.sets.keys number [] ≡ row → (number < length s.told.items) × AreTold M list row (get_or (lists_of s.told.items) number [])
  told_numbered s h number row low at = (omega (arith, low, h.many), subst (λ z. AreTold M list z (get_or (lists_of s.told.items) number [])) at (h.each number low))

-- what is known of each constructor's rules
module _ {A V W : Type 0} {label_of : V → Label} {holds : A → Label → Bool} (M : Meaning label_of holds W) (ranks : List ℕ) (own : List (Rules A)) where
  -- another one in the place of one
  pub split_set : (rows rows' : List Row) (splits : List (Splits V)) (c : ℕ) (s' : Splits V) → c < length splits
      → ((n : ℕ) (R : Rules A) (s : Splits V) → n < length splits → ¬ (n ≡ c) → get_or own n R ≡ R → get_or splits n s ≡ s → AreMet R.list.items (get_or ranks n 0) rows' s.met.items)
      → ((R : Rules A) → get_or own c R ≡ R → AreMet R.list.items (get_or ranks c 0) rows' s'.met.items × AreAllTold M R.list.items s') → AreSplit M ranks own rows splits → AreSplit M ranks own rows' (set splits c s')
  split_set rows rows' splits c s' low others here h = record {
    many = length-set splits c s' ∙ h.many;
    met = λ n R s n_low of at. elim (cases_eq n c) [
      | inl same ↦ subst (λ z. AreMet R.list.items (get_or ranks n 0) rows' z.met.items) (is n s same at) (subst (λ k. AreMet R.list.items (get_or ranks k 0) rows' s'.met.items) (sym same) (here R (ap (λ k. get_or own k R) (sym same) ∙ of)).0)
      | inr other ↦ others n R s (omega (arith, n_low, length-set splits c s')) other of (sym (get_or-set_other splits c n s' s other) ∙ at)
    ];
    told = λ n R s n_low of at. elim (cases_eq n c) [
      | inl same ↦ subst (AreAllTold M R.list.items) (is n s same at) (here R (ap (λ k. get_or own k R) (sym same) ∙ of)).1
      | inr other ↦ h.told n R s (omega (arith, n_low, length-set splits c s')) of (sym (get_or-set_other splits c n s' s other) ∙ at)
    ];
  }
    where
      is : (n : ℕ) (s : Splits V) → n ≡ c → get_or (set splits c s') n s ≡ s → s' ≡ s
      is n s same at = sym (get_or-set_same splits c s' s low) ∙ ap (λ k. get_or (set splits c s') k s) (sym same) ∙ at

  -- one more class
  pub split_next : (rows : List Row) (q : Row) (old new : List (Splits V)) → AreSplit M ranks own rows old → NextSplits ranks own q old new → AreSplit M ranks own (rows ++ q ∷ []) new
  split_next rows q old new h next = record {
    many = next.many ∙ h.many;
    met = λ c R s' low of at'.
        let (s, at) = element old c (omega (arith, low, next.many)) in
        (next.each c s s' (omega (arith, low, next.many)) at at' R of).met rows (h.met c R s (omega (arith, low, next.many)) of at);
    told = λ c R s' low of at'.
        let (s, at) = element old c (omega (arith, low, next.many)) in
        let one = next.each c s s' (omega (arith, low, next.many)) at at' R of in
        all_told_same M R.list.items s s' (ap (λ k. k.keys) one.sets_are) one.told_are (h.told c R s (omega (arith, low, next.many)) of at);
  }

  -- what is known at one of them
  module _ (rows : List Row) (splits : List (Splits V)) (h : AreSplit M ranks own rows splits) (c : ℕ) (R : Rules A) (s : Splits V) (own_low : c < length own) (low : c < length splits) (at : s ≡ get_or splits c s) where
    pub met_at : (n : ℕ) → n ≡ get_or ranks c 0 → AreMet (get_or own c R).list.items n rows s.met.items
    met_at n e = subst (λ k. AreMet (get_or own c R).list.items k rows s.met.items) (sym e) (h.met c (get_or own c R) s low (same_default own c (get_or own c R) R own_low) (sym at))

    pub all_told_at : AreAllTold M (get_or own c R).list.items s
    all_told_at = h.told c (get_or own c R) s low (same_default own c (get_or own c R) R own_low) (sym at)

  -- the labels that are found there
  pub told_found : (rows : List Row) (splits : List (Splits V)) (c : ℕ) (ks : List ℕ) (R R' : Rules A) (s s' : Splits V) (key : Row) (n : ℕ) → c < length own → get_or own c R' ≡ R' → c < length splits → get_or (set splits c s) c s' ≡ s'
      → key ≡ map (λ x. rows_meet (map (λ k. get_or rows k []) ks) (plain_rule x.rule.now).demands) (get_or own c R).list.items
      → (n < length s.told.items) × AreTold M (get_or own c R).list.items (both (get_or own c R).guarded key) (get_or (lists_of s.told.items) n [])
      → (n < length s'.told.items) × IsTold M R' (map (λ k. get_or rows k []) ks) key (get_or (lists_of s'.told.items) n [])
  told_found rows splits c ks R R' s s' key n own_low of low at is told =
      subst (λ r. (n < length s'.told.items) × IsTold M r (map (λ k. get_or rows k []) ks) key (get_or (lists_of s'.told.items) n [])) (same_default own c R R' own_low ∙ of)
      (subst (λ z. (n < length z.told.items) × IsTold M (get_or own c R) (map (λ k. get_or rows k []) ks) key (get_or (lists_of z.told.items) n [])) (sym (get_or-set_same splits c s s' low) ∙ at) (told.0, (is, told.1)))

  -- where these are the rules whose demands children meet, and labels that tell their guards apart are under this number
  pub told_at : (found : List (Class V)) (splits : List (Splits V)) → AreSplit M ranks own (class_rows found) splits → (c : ℕ) (R : Rules A) (s s' : Splits V) (ks : List ℕ) (key : Row) (n : ℕ) → c < length own → c < length splits → s ≡ get_or splits c s → length ks ≡ get_or ranks c 0
      → ((rows : List Row) → AreMet (get_or own c R).list.items (length ks) rows s.met.items → key ≡ map (λ x. rows_meet (map (λ k. get_or rows k []) ks) (plain_rule x.rule.now).demands) (get_or own c R).list.items)
      → IsUnder M (get_or own c R).list.items (both (get_or own c R).guarded key) s s' n → AreToldAt M ranks own found c ks (set splits c s') key n
  told_at found splits h c R s s' ks key n own_low low at wide key_is under = record {
    splits = split_set (class_rows found) (class_rows found) splits c s' low (λ m Q t m_low other of is. h.met m Q t m_low of is)
        (λ Q of.
        let same : get_or own c R ≡ Q = same_default own c R Q own_low ∙ of in (
          subst (λ z. AreMet Q.list.items (get_or ranks c 0) (class_rows found) z.items) (sym under.met) (h.met c Q s low of (sym at)),
          subst (λ z. AreAllTold M z.list.items s') same under.all,
        ))
        h;
    told = λ Q t of is. told_found (class_rows found) splits c ks R Q s' t key n own_low of low is (key_is (class_rows found) (met_at (class_rows found) splits h c R s own_low low at (length ks) wide)) (under.low, under.told);
  }

  -- before there are classes
  pub split_none : (splits : List (Splits V)) → AreFresh (length ranks) splits → AreSplit M ranks own [] splits
  split_none splits fresh = record {
    many = fresh.many;
    met = λ c R s low of at. record { many = ap length (fresh.none c s low at).0; each = λ k inside. absurd (omega (arith, inside)) };
    told = λ c R s low of at. record { many = ap length (fresh.none c s low at).1.1 ∙ sym (ap length (fresh.none c s low at).1.0); each = λ i inside. absurd (omega (arith, inside, ap length (fresh.none c s low at).1.0)) };
  }

pub element_pushed : {X : Type 0} (P : ℕ → X → Type 0) (old new : List X) (x : X) → new ≡ old ++ x ∷ [] → P (length old) x → ((i : ℕ) (y : X) → i < length old → get_or old i y ≡ y → P i y) → (i : ℕ) (y : X) → i < length new → get_or new i y ≡ y → P i y
element_pushed P old new x e last h i y low at = elim (cases_lt i (length old)) [
  | inl before ↦ h i y before (sym (old_at old x y i before) ∙ sym (ap (λ l. get_or l i y) e) ∙ at)
  | inr past ↦
      let here : i ≡ length old = omega (arith, past, low, ap length e, length_push old x) in
      subst (P i) (sym (new_at old x y i here) ∙ sym (ap (λ l. get_or l i y) e) ∙ at) (subst (λ k. P k x) (sym here) last)
]
