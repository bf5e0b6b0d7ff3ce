-- The first classes of kinds, and lists of them.
use Rattle.std.proofs.Common.{ℕ, zero, suc, Vec, ◌≡◌, ◌<◌, ◌≤◌, ◌⊎◌, inl, inr, ◌↔◌, Bool, false, List, [], ◌∷◌, ◌++◌, length, map, get_or, Contains, refl, sym, ap, subst, ◌∙◌, arith}
use Rattle.std.proofs.lemmas.Bool.{cases_lt, cases_eq}
use Rattle.std.proofs.lemmas.List.{length-map, get_or_past}
use Rattle.std.proofs.lemmas.List.Elements.{Contains-push_cases}
use Rattle.model_tree.specs.Label.{Label}
use Rattle.model_sta.specs.Automaton.{Rule, rules_of}
use Rattle.model_sta.specs.Sets.{Each}
use Rattle.model_sta.specs.Least.{counts_of}
use Rattle.model_sta.proofs.Reached.{same_default}
use Rattle.sta_core.specs.Machine.{plain_rule}
use Rattle.sta_core.specs.Sta.{rule_meaning}
use Rattle.sta_core.specs.declared.StaRule.{StaRule}
use Rattle.sta_theory.specs.Kinds.{IsDemanded, OneKind}
use Rattle.sta_classes.specs.Rules.{plain_rules, meaning_of}
use Rattle.sta_classes.specs.Rows.{found_of, founds, class_rows, lists_of}
use Rattle.sta_classes.specs.Places.{AreAsked, IsNumbered, IsNext}
use Rattle.sta_classes.specs.Listed.{AreCheapest}
use Rattle.sta_classes.specs.Pending.{IsBetter}
use Rattle.sta_classes.specs.Searched.{listed_at, ArePlaces, NextPlaces, AreKinds, IsSound, IsOpened, AreOpened}
use Rattle.sta_classes.specs.declared.class.Class.{Class}
use Rattle.sta_classes.specs.declared.place.Place.{Place}
use Rattle.sta_classes.specs.declared.pending.Pending.{Pending}
use Rattle.sta_theory.proofs.Lists.{map_member, in_map}
use Rattle.sta_classes.proofs.Rows.{rows_are}
use Rattle.sta_theory.proofs.Tables.{one_kind_is}
use Rattle.sta_classes.proofs.Listed.{map_at}
use Rattle.sta_classes.proofs.Places.{numbers_tell}
use Rattle.sta_classes.proofs.Turns.{opened_more, opened_later}

pub element_at : {X : Type 0} (xs : List X) (j : ℕ) → j < length xs → (x : X) × (get_or xs j x ≡ x)
element_at [] j low = absurd (omega arith)
element_at (x ∷ xs) zero low = (x, refl)
element_at (x ∷ xs) (suc j) low = element_at xs j (omega arith)

module _ {A G : Type 0} (holds : A → Label → Bool) (rules : List (Vec (StaRule A) G)) where
  meaning_at : (t : ℕ) (v : Vec (StaRule A) G) → t < length rules → get_or rules t v ≡ v → rules_of (meaning_of holds (plain_rules rules)) t ≡ map (rule_meaning holds) (map plain_rule v.items)
  meaning_at t v low at =
      map_at (map (rule_meaning holds)) (plain_rules rules) t [] [] (omega (arith, low, length-map rules (λ those. map plain_rule those.items)))
      ∙ ap (map (rule_meaning holds)) (map_at (λ those. map plain_rule those.items) rules t v [] low ∙ ap (λ z. map plain_rule z.items) at)

  -- the states that are asked for are those that rules of the meaning demand
  pub asked : (c j : ℕ) (states : List ℕ) → AreAsked rules c j states → (s : ℕ) → Contains states s ↔ ((t : ℕ) × IsDemanded (rules_of (meaning_of holds (plain_rules rules)) t) c j s)
  asked c j states are s = (
    (λ at.
        let (v, (t, low, is), (r, there, (e, demanded))) = (are s).0 at in (
          t,
          (
            rule_meaning holds (plain_rule r),
            subst (λ rs. Contains rs (rule_meaning holds (plain_rule r))) (sym (meaning_at t v low is)) (in_map (rule_meaning holds) (map plain_rule v.items) (plain_rule r) (in_map plain_rule v.items r there)),
            e,
            demanded,
          ),
        )),
    (λ w. (let (t, d) = w in back t d)),
  )
    where
      back : (t : ℕ) → IsDemanded (rules_of (meaning_of holds (plain_rules rules)) t) c j s → Contains states s
      back t (m, there, e, demanded) = elim (cases_lt t (length rules)) [
        | inl low ↦
            let (v, at) = element_at rules t low in
            let (p, in_plain, is_m) = map_member (rule_meaning holds) (map plain_rule v.items) m (subst (λ rs. Contains rs m) (meaning_at t v low at) there) in
            let (r, in_v, is_p) = map_member plain_rule v.items p in_plain in
            let same : rule_meaning holds (plain_rule r) ≡ m = ap (rule_meaning holds) is_p ∙ is_m in
            (are s).1 (v, (t, low, at), (r, in_v, (ap (λ z. z.constructor) same ∙ e, subst (λ z. Contains (get_or z.demands j []) s) (sym same) demanded)))
        | inr high ↦
            let none : rules_of (meaning_of holds (plain_rules rules)) t ≡ [] = get_or_past (meaning_of holds (plain_rules rules)) t [] (omega (arith, high, length-map (plain_rules rules) (map (rule_meaning holds)), length-map rules (λ those. map plain_rule those.items))) in
            absurd (let low : (subst (λ rs. Contains rs m) none there).0 < 0 = (subst (λ rs. Contains rs m) none there).1 in omega arith)
      ]

module _ {A V G H : Type 0} (holds : A → Label → Bool) (ranks : List ℕ) (rules : List (Vec (StaRule A) G)) (classes : List (Class V)) (places : List (Vec Place H)) (kinds : AreKinds ranks rules classes places) where
  -- what is known at a place
  pub place_at : (c j : ℕ) → c < length ranks → j < get_or ranks c 0 → (p : Place) × (AreAsked rules c j p.states.items × IsNumbered (class_rows classes) p × (listed_at places c j ≡ p.firsts.items))
  place_at c j c_low j_low =
      let of : ArePlaces rules (class_rows classes) c (get_or ranks c 0) (get_or (lists_of places) c []) = kinds.each c c_low in
      let low : j < length (get_or (lists_of places) c []) = omega (arith, j_low, of.many) in
      let (p, at) = element_at (get_or (lists_of places) c []) j low in
      let (are, numbered) = of.each j p low at in
      (p, (are, numbered, map_at (λ z. z.firsts.items) (get_or (lists_of places) c []) j p [] low ∙ ap (λ z. z.firsts.items) at))

  rows_long : length (class_rows classes) ≡ length classes
  rows_long = length-map classes (λ z. z.row)

  pub listed_low : (c j i : ℕ) → c < length ranks → j < get_or ranks c 0 → Contains (listed_at places c j) i → i < length classes
  listed_low c j i c_low j_low at =
      let (p, (are, numbered, is)) = place_at c j c_low j_low in
      let (n, low, here) = subst (λ l. Contains l i) is at in
      omega (arith, numbered.firsts_low n low, same_default p.firsts.items n 0 i low, here, rows_long)

  -- classes of one number are of one kind
  pub one_number : (c j : ℕ) (p : Place) → AreAsked rules c j p.states.items → IsNumbered (class_rows classes) p → (k m : ℕ) → k < length classes → m < length classes
      → (get_or p.kind_of.items k 0 ≡ get_or p.kind_of.items m 0) ↔ OneKind (meaning_of holds (plain_rules rules)) c j (get_or (class_rows classes) k []) (get_or (class_rows classes) m [])
  one_number c j p are numbered k m k_low m_low =
      let tell = numbers_tell p.states.items p.kind_of.items p.firsts.items p.kinds.keys (class_rows classes) [] numbered k m (omega (arith, k_low, rows_long)) (omega (arith, m_low, rows_long)) in
      let kind = one_kind_is (meaning_of holds (plain_rules rules)) c j p.states.items (asked holds rules c j p.states.items are) (get_or (class_rows classes) k []) (get_or (class_rows classes) m []) in
      ((λ e. kind.0 (tell.0 e)), (λ same. tell.1 (kind.1 same)))

  module _ (label : V → Label) (rising : (i k : ℕ) → i ≤ k → k < length classes → get_or (counts_of (founds label classes)) i 0 ≤ get_or (counts_of (founds label classes)) k 0) where
    pub cheapest : AreCheapest (meaning_of holds (plain_rules rules)) ranks (founds label classes) (listed_at places)
    cheapest = record {
      are_found = λ c j i c_low j_low at. omega (arith, listed_low c j i c_low j_low at, length-map classes (found_of label));
      cheapest = λ c j k c_low j_low k_low.
          let low : k < length classes = omega (arith, k_low, length-map classes (found_of label)) in
          let (p, (are, numbered, is)) = place_at c j c_low j_low in
          let kind : get_or p.kind_of.items k 0 < length p.firsts.items = omega (arith, numbered.low k (omega (arith, low, rows_long)), numbered.one_each) in
          let i : ℕ = get_or p.firsts.items (get_or p.kind_of.items k 0) 0 in
          let less : get_or p.firsts.items (get_or p.kind_of.items k 0) 0 ≤ k = numbered.first k (omega (arith, low, rows_long)) in
          let same : get_or p.kind_of.items k 0 ≡ get_or p.kind_of.items (get_or p.firsts.items (get_or p.kind_of.items k 0) 0) 0 = sym (numbered.firsts_are (get_or p.kind_of.items k 0) kind) in (
            get_or p.firsts.items (get_or p.kind_of.items k 0) 0,
            subst (λ l. Contains l (get_or p.firsts.items (get_or p.kind_of.items k 0) 0)) (sym is) (get_or p.kind_of.items k 0, kind, same_default p.firsts.items (get_or p.kind_of.items k 0) (get_or p.firsts.items (get_or p.kind_of.items k 0) 0) 0 kind),
            subst (λ z. OneKind (meaning_of holds (plain_rules rules)) c j (get_or z k []) (get_or z (get_or p.firsts.items (get_or p.kind_of.items k 0) 0) [])) (sym (rows_are label classes))
                ((one_number c j p are numbered k (get_or p.firsts.items (get_or p.kind_of.items k 0) 0) low (omega (arith, less, low))).0 same),
            rising (get_or p.firsts.items (get_or p.kind_of.items k 0) 0) k less low,
          );
    }

-- where a number first stands in a list
pub first_place : (ks : List ℕ) (n : ℕ) → Contains ks n → (j : ℕ) × (j < length ks) × (get_or ks j 0 ≡ n) × ((i : ℕ) → i < j → ¬ (get_or ks i 0 ≡ n))
first_place [] n at = absurd (let low : at.0 < 0 = at.1 in omega arith)
first_place (k ∷ ks) n at = elim (cases_eq k n) [
  | inl e ↦ (0, omega arith, e, λ i low. absurd (omega arith))
  | inr other ↦ (let (j, low, is, none) = first_place ks n (behind other at) in (suc j, omega arith, is, first other j none))
]
  where
    behind : ¬ (k ≡ n) → Contains (k ∷ ks) n → Contains ks n
    behind other (zero, low, is) = absurd (other is)
    behind other (suc i, low, is) = (i, omega arith, is)

    first : ¬ (k ≡ n) → (m : ℕ) → ((i : ℕ) → i < m → ¬ (get_or ks i 0 ≡ n)) → (i : ℕ) → i < suc m → ¬ (get_or (k ∷ ks) i 0 ≡ n)
    first other m none zero low = other
    first other m none (suc i) low = none i (omega arith)

module _ {A V G H : Type 0} (ranks : List ℕ) (has keeps : Label → Type 0) (meaning : List (List (Rule Label))) (label : V → Label) (rules : List (Vec (StaRule A) G)) where
  -- the kinds with one more class
  pub kinds_more : (classes classes' : List (Class V)) (c : Class V) (places places' : List (Vec Place H)) → AreKinds ranks rules classes places → classes' ≡ classes ++ c ∷ [] → length places' ≡ length places
      → ((n : ℕ) → n < length places → NextPlaces c.row (get_or (lists_of places) n []) (get_or (lists_of places') n [])) → AreKinds ranks rules classes' places'
  kinds_more classes classes' c places places' kinds is many next = record {
    many = many ∙ kinds.many;
    each = λ n low.
        let of : ArePlaces rules (class_rows classes) n (get_or ranks n 0) (get_or (lists_of places) n []) = kinds.each n low in
        let to : NextPlaces c.row (get_or (lists_of places) n []) (get_or (lists_of places') n []) = next n (omega (arith, low, kinds.many)) in
        record {
          many = to.many ∙ of.many;
          each = λ j q j_low at.
              let old_low : j < length (get_or (lists_of places) n []) = omega (arith, j_low, to.many) in
              let (p, p_at) = element_at (get_or (lists_of places) n []) j old_low in
              let one : IsNext c.row p q = to.each j p q old_low p_at at in
              let (are, numbered) = of.each j p old_low p_at in
              (subst (AreAsked rules n j) (sym one.states_are) are, subst (λ rs. IsNumbered rs q) (sym (ap class_rows is ∙ rows_push classes c)) (one.numbered (class_rows classes) numbered));
        };
  }
    where
      rows_push : (cs : List (Class V)) (d : Class V) → class_rows (cs ++ d ∷ []) ≡ class_rows cs ++ d.row ∷ []
      rows_push [] d = refl
      rows_push (x ∷ cs) d = ap (λ rs. x.row ∷ rs) (rows_push cs d)

  module _ (classes classes' : List (Class V)) (c : Class V) (places places' : List (Vec Place H)) (kinds : AreKinds ranks rules classes places) (is : classes' ≡ classes ++ c ∷ [])
      (next : (n : ℕ) → n < length places → NextPlaces c.row (get_or (lists_of places) n []) (get_or (lists_of places') n [])) where
    -- what was listed, but for the class itself
    was_listed : (n j k : ℕ) → n < length ranks → j < get_or ranks n 0 → ¬ (k ≡ length classes) → Contains (listed_at places' n j) k → Contains (listed_at places n j) k
    was_listed n j k n_low j_low other at =
        let of : ArePlaces rules (class_rows classes) n (get_or ranks n 0) (get_or (lists_of places) n []) = kinds.each n n_low in
        let to : NextPlaces c.row (get_or (lists_of places) n []) (get_or (lists_of places') n []) = next n (omega (arith, n_low, kinds.many)) in
        let low : j < length (get_or (lists_of places) n []) = omega (arith, j_low, of.many) in
        let low' : j < length (get_or (lists_of places') n []) = omega (arith, low, to.many) in
        let (p, p_at) = element_at (get_or (lists_of places) n []) j low in
        let (q, q_at) = element_at (get_or (lists_of places') n []) j low' in
        let one : IsNext c.row p q = to.each j p q low p_at q_at in
        let (are, numbered) = of.each j p low p_at in
        let old_is : listed_at places n j ≡ p.firsts.items = map_at (λ z. z.firsts.items) (get_or (lists_of places) n []) j p [] low ∙ ap (λ z. z.firsts.items) p_at in
        let new_is : listed_at places' n j ≡ q.firsts.items = map_at (λ z. z.firsts.items) (get_or (lists_of places') n []) j q [] low' ∙ ap (λ z. z.firsts.items) q_at in
        subst (λ l. Contains l k) (sym old_is) (cut p.firsts.items q.firsts.items (length p.kind_of.items) (numbered.many ∙ length-map classes (λ z. z.row)) one.longer (subst (λ l. Contains l k) new_is at))
      where
        cut : (old new : List ℕ) (last : ℕ) → last ≡ length classes → (new ≡ old) ⊎ (new ≡ old ++ last ∷ []) → Contains new k → Contains old k
        cut old new last e (inl same) at = subst (λ l. Contains l k) same at
        cut old new last e (inr more) at = elim (Contains-push_cases old last k (subst (λ l. Contains l k) more at)) [ inl before ↦ before | inr here ↦ absurd (other (sym here ∙ e)) ]

    -- all lists of kinds are opened once those with the last class are
    pub all_opened : (old s : Pending V) → IsSound ranks has keeps meaning label classes' old → IsBetter old s
        → AreOpened ranks has keeps meaning label classes places old
        → ((n : ℕ) → n < length ranks → (ks : List ℕ) → length ks ≡ get_or ranks n 0 → ((j : ℕ) → j < length ks → Contains (listed_at places' n j) (get_or ks j 0)) → Contains ks (length classes) → IsOpened ranks has keeps meaning label classes' s n ks)
        → AreOpened ranks has keeps meaning label classes' places' s
    all_opened old s sound better before touched n n_low ks wide listed = elim (there_or_not ks) [
      | inl at ↦ touched n n_low ks wide listed at
      | inr none ↦
          let old_listed : (j : ℕ) → j < length ks → Contains (listed_at places n j) (get_or ks j 0) = λ j low. was_listed n j (get_or ks j 0) n_low (omega (arith, low, wide)) (none j low) (listed j low) in
          let lows : Each (λ k. k < length classes) ks = each_below ks (λ j low. listed_low holds_none ranks rules classes places kinds n j (get_or ks j 0) n_low (omega (arith, low, wide)) (old_listed j low)) in
          opened_later ranks has keeps meaning label classes' old s sound n ks better
          (subst (λ z. IsOpened ranks has keeps meaning label z old n ks) (sym is) (opened_more ranks has keeps meaning label classes c old n ks lows (before n n_low ks wide old_listed)))
    ]
      where
        holds_none : A → Label → Bool
        holds_none a l = false

        there_or_not : (xs : List ℕ) → Contains xs (length classes) ⊎ ((j : ℕ) → j < length xs → ¬ (get_or xs j 0 ≡ length classes))
        there_or_not [] = inr (λ j low. absurd (omega arith))
        there_or_not (x ∷ xs) = elim (cases_eq x (length classes)) [
          | inl e ↦ inl (0, omega arith, e)
          | inr other ↦ elim (there_or_not xs) [ inl at ↦ inl (suc at.0, omega (arith, at.1), at.2) | inr none ↦ inr (neither x xs other none) ]
        ]
          where
            neither : (y : ℕ) (ys : List ℕ) → ¬ (y ≡ length classes) → ((j : ℕ) → j < length ys → ¬ (get_or ys j 0 ≡ length classes)) → (j : ℕ) → j < length (y ∷ ys) → ¬ (get_or (y ∷ ys) j 0 ≡ length classes)
            neither y ys other none zero low = other
            neither y ys other none (suc j) low = none j (omega arith)

        each_below : (xs : List ℕ) → ((j : ℕ) → j < length xs → get_or xs j 0 < length classes) → Each (λ k. k < length classes) xs
        each_below [] h = tt
        each_below (x ∷ xs) h = (h 0 (omega arith), each_below xs (λ j low. h (suc j) (omega arith)))
