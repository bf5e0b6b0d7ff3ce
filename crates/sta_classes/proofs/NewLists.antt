-- Lists of kinds that the last class stands in.
use Rattle.std.proofs.Common.{ℕ, ◌≡◌, ◌<◌, ◌+◌, ◌-◌, ◌↔◌, inl, inr, List, [], ◌++◌, map, get_or, length, Contains, refl, sym, ap, subst, ◌∙◌, arith}
use Rattle.std.proofs.lemmas.Bool.{cases_lt}
use Rattle.std.proofs.lemmas.List.{length-map}
use Rattle.std.proofs.lemmas.List.Elements.{Contains-append_left, Contains-append_right, Contains-append_cases}
use Rattle.model_sta.specs.Sets.{Row}
use Rattle.model_sta.proofs.Reached.{same_default}
use Rattle.sta_classes.specs.Lists.{IsListWith, IsNewList}
use Rattle.sta_classes.specs.Places.{IsNumbered, AreNumberedFor}
use Rattle.sta_classes.specs.declared.place.Place.{Place}
use Rattle.sta_classes.proofs.Firsts.{element_at, first_place}
use Rattle.sta_classes.proofs.Listed.{map_at}
use Rattle.sta_classes.proofs.Places.{listed_first}

module _ (classes : List (List ℕ)) (last m : ℕ) where
  -- exactly the lists that have the class at a place before this one, and at none before that
  abbrev pub HaveBefore : ℕ → List (List ℕ) → Type 0
  HaveBefore n lists = (ks : List ℕ) → Contains lists ks ↔ ((j : ℕ) × (j < n) × IsListWith classes j last m ks)

  pub have_none : (lists : List (List ℕ)) → lists ≡ [] → HaveBefore 0 lists
  have_none lists none ks = ((λ at. absurd (omega (arith, at.1, ap length none))), (λ w. absurd (let low : w.0 < 0 = w.1 in omega (arith, low))))

  pub have_more : (n : ℕ) (lists more lists' : List (List ℕ)) → HaveBefore n lists → ((ks : List ℕ) → Contains more ks ↔ IsListWith classes n last m ks) → lists' ≡ lists ++ more → HaveBefore (n + 1) lists'
  have_more n lists more lists' before here is ks = (
    (λ at. elim (Contains-append_cases lists more ks (subst (λ z. Contains z ks) is at)) [
      | inl old ↦ (let (j, low, h) = (before ks).0 old in (j, omega (arith, low), h))
      | inr new ↦ (n, omega arith, (here ks).0 new)
    ]),
    (λ w.
        let (j, low, h) = w in
        subst (λ z. Contains z ks) (sym is) (elim (cases_lt j n) [
          | inl below ↦ Contains-append_left lists more ks ((before ks).1 (j, below, h))
          | inr past ↦
              let same : j ≡ n = omega (arith, past, low) in
              Contains-append_right lists more ks ((here ks).1 (subst (λ k. IsListWith classes k last m ks) same h))
        ])),
  )

  pub have_same : (n : ℕ) (lists : List (List ℕ)) → HaveBefore n lists → ((ks : List ℕ) → IsListWith classes n last m ks → ⊥) → HaveBefore (n + 1) lists
  have_same n lists before none ks = (
    (λ at. (let (j, low, h) = (before ks).0 at in (j, omega (arith, low), h))),
    (λ w.
        let (j, low, h) = w in
        elim (cases_lt j n) [
          | inl below ↦ (before ks).1 (j, below, h)
          | inr past ↦
              let same : j ≡ n = omega (arith, past, low) in
              absurd (none ks (subst (λ k. IsListWith classes k last m ks) same h))
        ]),
  )

-- the places of a list that has the last class
list_with : (classes : List (List ℕ)) (n last j : ℕ) (ks : List ℕ) → length ks ≡ n → ((i : ℕ) → i < n → Contains (get_or classes i []) (get_or ks i 0)) → get_or ks j 0 ≡ last → ((i : ℕ) → i < j → ¬ (get_or ks i 0 ≡ last)) → IsListWith classes j last n ks
list_with classes n last j ks wide listed at none = (wide, λ i low. (listed i low, (λ e. ap (λ k. get_or ks k 0) e ∙ at, λ before. none i before)))

-- those that have the class at any of the places are new
pub new_by_places : (classes : List (List ℕ)) (n end m : ℕ) (lists : List (List ℕ)) → 0 < n → end ≡ m → m ≡ length classes → HaveBefore classes (n - 1) m end lists → (ks : List ℕ) → Contains lists ks ↔ IsNewList classes n ks
new_by_places classes n end m lists some all long have ks = (
  (λ at.
      let (j, low, h) = (have ks).0 at in
      let inside : j < length ks = omega (arith, low, all, h.0) in (
        h.0 ∙ long,
        λ i i_low. (h.1 i (omega (arith, i_low, long))).0,
        λ some. (j, inside, same_default ks j (n - 1) 0 inside ∙ (h.1 j (omega (arith, low, all))).1.0 refl),
      )),
  (λ new.
      let (j, j_low, is, none) = first_place ks (n - 1) (new.2 some) in
      (have ks).1 (j, omega (arith, j_low, all, new.0, long), list_with classes m (n - 1) j ks (new.0 ∙ sym long) (λ i low. new.1 i (omega (arith, low, long))) is none)),
)

module _ (places : List Place) where
  abbrev firsts : List (List ℕ)
  firsts = map (λ p. p.firsts.items) places

  firsts_at : (n : ℕ) (p : Place) → n < length places → get_or places n p ≡ p → get_or firsts n [] ≡ p.firsts.items
  firsts_at n p low at = map_at (λ z. z.firsts.items) places n p [] low ∙ ap (λ z. z.firsts.items) at

  -- where the class is not the first of its kind at a place, no list has it there
  pub none_at : (rows : List Row) (n last m : ℕ) (p : Place) → n < length places → n < m → get_or places n p ≡ p → IsNumbered rows p → ¬ (get_or p.firsts.items (get_or p.kind_of.items last 0) 0 ≡ last) → (ks : List ℕ) → IsListWith firsts n last m ks → ⊥
  none_at rows n last m p low inside at numbered other ks listed =
      let (there, may) = listed.1 n inside in
      other (listed_first p.states.items p.kind_of.items p.firsts.items p.kinds.keys rows [] numbered last (subst (Contains p.firsts.items) (may.0 refl) (subst (λ l. Contains l (get_or ks n 0)) (firsts_at n p low at) there)))

  -- what is listed is a class
  listed_below : (n j k : ℕ) → AreNumberedFor n places → j < length places → Contains (get_or firsts j []) k → k < n
  listed_below n j k (rows, many, numbered) low at =
      let (p, p_at) = element_at places j low in
      let (i, i_low, is) = subst (λ l. Contains l k) (firsts_at j p low p_at) at in
      let below : get_or p.firsts.items i 0 < length rows = (numbered j p low p_at).firsts_low i i_low in
      let same : get_or p.firsts.items i 0 ≡ k = same_default p.firsts.items i 0 k i_low ∙ is in
      omega (arith, below, same, many)

  -- before there are classes, all lists are new
  pub new_first : (n m : ℕ) (lists : List (List ℕ)) → n ≡ 0 → AreNumberedFor n places → ((ks : List ℕ) → Contains lists ks ↔ IsListWith firsts m 0 (length places) ks) → (ks : List ℕ) → Contains lists ks ↔ IsNewList firsts n ks
  new_first n m lists none numbered have ks =
      let long : length firsts ≡ length places = length-map places (λ p. p.firsts.items) in (
        (λ at. (let h = (have ks).0 at in (h.0 ∙ sym long, λ i low. (h.1 i (omega (arith, low, long))).0, λ some. absurd (omega (arith, some, none))))),
        (λ new. (have ks).1 (new.0 ∙ long, λ i low. absurd (let below : get_or ks i 0 < n = listed_below n i (get_or ks i 0) numbered low (new.1 i (omega (arith, low, long))) in omega (arith, below, none)))),
      )

-- the same lists under other names
pub lists_same : (P : List ℕ → Type 0) (ps ps' : List Place) (n n' : ℕ) → ps ≡ ps' → n ≡ n' → ((ks : List ℕ) → P ks ↔ IsNewList (map (λ p. p.firsts.items) ps) n ks) → (ks : List ℕ) → P ks ↔ IsNewList (map (λ p. p.firsts.items) ps') n' ks
lists_same P ps ps' n n' same end h ks = subst (λ m. P ks ↔ IsNewList (map (λ p. p.firsts.items) ps') m ks) end (subst (λ z. P ks ↔ IsNewList (map (λ p. p.firsts.items) z) n ks) same (h ks))
