-- Places that one more class is told to.
use Rattle.std.proofs.Common.{ℕ, zero, suc, Vec, ◌≡◌, ◌<◌, ◌≤◌, ◌+◌, inl, inr, List, [], ◌∷◌, ◌++◌, length, get_or, set, refl, sym, ap, subst, subst₂, ◌∙◌, arith}
use Rattle.std.proofs.lemmas.Bool.{cases_lt}
use Rattle.std.proofs.lemmas.List.{length_push, length-map, get_or-set_same, get_or-set_other}
use Rattle.model_sta.specs.Sets.{Row}
use Rattle.model_sta.proofs.Reached.{same_default}
use Rattle.sta_core.specs.declared.StaRule.{StaRule}
use Rattle.sta_classes.specs.Rows.{lists_of}
use Rattle.sta_classes.specs.Places.{AreAsked, IsNumbered}
use Rattle.sta_classes.specs.Searched.{ArePlaces, NextPlaces}
use Rattle.sta_classes.specs.declared.place.Place.{Place}
use Rattle.sta_classes.proofs.Places.{old_at, new_at}
use Rattle.sta_classes.proofs.Rows.{lists_push}

module _ {A G : Type 0} (rules : List (Vec (StaRule A) G)) where
  -- one more place
  pub places_more : (c n : ℕ) (places places' : List Place) (p : Place) → ArePlaces rules [] c n places → AreAsked rules c n p.states.items → IsNumbered [] p → places' ≡ places ++ p ∷ [] → ArePlaces rules [] c (n + 1) places'
  places_more c n places places' p h are numbered is = subst (ArePlaces rules [] c (n + 1)) (sym is) (record {
    many = length_push places p ∙ ap (λ k. k + 1) h.many;
    each = λ j q low at. elim (cases_lt j (length places)) [
      | inl below ↦ h.each j q below (sym (old_at places p q j below) ∙ at)
      | inr past ↦
          let here : j ≡ length places = omega (arith, past, low, length_push places p) in
          let same : p ≡ q = sym (new_at places p q j here) ∙ at in
          subst (λ z. AreAsked rules c j z.states.items × IsNumbered [] z) same (subst (λ k. AreAsked rules c k p.states.items) (sym (here ∙ h.many)) are, numbered)
    ];
  })

  -- the places of one more constructor
  pub all_more : {H : Type 0} (ranks : List ℕ) (n rank : ℕ) (all all' : List (Vec Place H)) (v : Vec Place H) → length all ≡ n → ((c : ℕ) → c < length all → ArePlaces rules [] c (get_or ranks c 0) (get_or (lists_of all) c []))
      → ArePlaces rules [] n rank v.items → rank ≡ get_or ranks n 0 → all' ≡ all ++ v ∷ [] → (c : ℕ) → c < length all' → ArePlaces rules [] c (get_or ranks c 0) (get_or (lists_of all') c [])
  all_more ranks n rank all all' v many h made wide is c low =
      let lists : lists_of all' ≡ lists_of all ++ v.items ∷ [] = ap lists_of is ∙ lists_push all v in
      let long : length (lists_of all) ≡ length all = length-map all (λ z. z.items) in
      subst (λ l. ArePlaces rules [] c (get_or ranks c 0) (get_or l c [])) (sym lists) (elim (cases_lt c (length all)) [
        | inl below ↦ subst (ArePlaces rules [] c (get_or ranks c 0)) (sym (old_at (lists_of all) v.items [] c (omega (arith, below, long)))) (h c below)
        | inr past ↦
            let here : c ≡ length all = omega (arith, past, low, ap length is, length_push all v) in
            subst (ArePlaces rules [] c (get_or ranks c 0)) (sym (new_at (lists_of all) v.items [] c (here ∙ sym long)))
            (subst₂ (λ k r. ArePlaces rules [] k r v.items) (sym (here ∙ many)) (wide ∙ ap (λ k. get_or ranks k 0) (sym (here ∙ many))) made)
      ])

-- one more element is told
module _ {X : Type 0} (R : ℕ → X → X → Type 0) (old cur : List X) (i : ℕ) (x y : X) where
  pub next_more : i < length cur → x ≡ get_or cur i x → R i x y
      → ((j : ℕ) (p q : X) → j < i → get_or old j p ≡ p → get_or cur j q ≡ q → R j p q) → ((j : ℕ) (q : X) → i ≤ j → get_or cur j q ≡ get_or old j q)
      → (j : ℕ) (p q : X) → j < i + 1 → get_or old j p ≡ p → get_or (set cur i y) j q ≡ q → R j p q
  next_more low at next done left j p q j_low p_at q_at = elim (cases_lt j i) [
    | inl below ↦ done j p q below p_at (sym (get_or-set_other cur i j y q (λ e. (omega (arith, e, below)))) ∙ q_at)
    | inr past ↦
        let here : j ≡ i = omega (arith, past, j_low) in
        let new_is : y ≡ q = sym (ap (λ k. get_or (set cur i y) k q) here ∙ get_or-set_same cur i y q low) ∙ q_at in
        let old_is : x ≡ p = at ∙ same_default cur i x p low ∙ left i p (omega arith) ∙ ap (λ k. get_or old k p) (sym here) ∙ p_at in
        subst (λ k. R k p q) (sym here) (subst₂ (R i) old_is new_is next)
  ]

  pub left_more : ((j : ℕ) (q : X) → i ≤ j → get_or cur j q ≡ get_or old j q) → (j : ℕ) (q : X) → i + 1 ≤ j → get_or (set cur i y) j q ≡ get_or old j q
  left_more left j q past = get_or-set_other cur i j y q (λ e. (omega (arith, e, past))) ∙ left j q (omega arith)

lists_set : {X A : Type 0} (vs : List (Vec X A)) (i : ℕ) (v : Vec X A) → lists_of (set vs i v) ≡ set (lists_of vs) i v.items
lists_set [] i v = refl
lists_set (u ∷ vs) zero v = refl
lists_set (u ∷ vs) (suc i) v = ap (λ l. u.items ∷ l) (lists_set vs i v)

module _ {H : Type 0} (row : Row) (old cur : List (Vec Place H)) (i : ℕ) (x y : Vec Place H) where
  pub next_all : i < length cur → x ≡ get_or cur i x → NextPlaces row x.items y.items
      → ((c : ℕ) → c < i → c < length old → NextPlaces row (get_or (lists_of old) c []) (get_or (lists_of cur) c [])) → ((c : ℕ) → i ≤ c → get_or (lists_of cur) c [] ≡ get_or (lists_of old) c [])
      → (c : ℕ) → c < i + 1 → c < length old → NextPlaces row (get_or (lists_of old) c []) (get_or (lists_of (set cur i y)) c [])
  next_all low at next done left c c_low in_old = elim (cases_lt c i) [
    | inl below ↦ subst (NextPlaces row (get_or (lists_of old) c [])) (sym (ap (λ l. get_or l c []) (lists_set cur i y) ∙ get_or-set_other (lists_of cur) i c y.items [] (λ e. (omega (arith, e, below))))) (done c below in_old)
    | inr past ↦
        let here : c ≡ i = omega (arith, past, c_low) in
        let long : length (lists_of cur) ≡ length cur = length-map cur (λ z. z.items) in
        let new_is : get_or (lists_of (set cur i y)) c [] ≡ y.items = ap (λ l. get_or l c []) (lists_set cur i y) ∙ ap (λ k. get_or (set (lists_of cur) i y.items) k []) here ∙ get_or-set_same (lists_of cur) i y.items [] (omega (arith, low, long)) in
        let old_is : x.items ≡ get_or (lists_of old) c [] = own cur i low at ∙ left i (omega arith) ∙ ap (λ k. get_or (lists_of old) k []) (sym here) in
        subst₂ (NextPlaces row) old_is (sym new_is) next
  ]
    where
      own : (vs : List (Vec Place H)) (k : ℕ) → k < length vs → x ≡ get_or vs k x → x.items ≡ get_or (lists_of vs) k []
      own [] k l e = absurd (omega arith)
      own (u ∷ vs) zero l e = ap (λ z. z.items) e
      own (u ∷ vs) (suc k) l e = own vs k (omega arith) e

  pub left_all : ((c : ℕ) → i ≤ c → get_or (lists_of cur) c [] ≡ get_or (lists_of old) c []) → (c : ℕ) → i + 1 ≤ c → get_or (lists_of (set cur i y)) c [] ≡ get_or (lists_of old) c []
  left_all left c past = ap (λ l. get_or l c []) (lists_set cur i y) ∙ get_or-set_other (lists_of cur) i c y.items [] (λ e. (omega (arith, e, past))) ∙ left c (omega arith)
