-- Maps that keep the first number of each key, and numbers of first ones.
use Rattle.std.proofs.Common.{ℕ, ◌+◌, ◌≡◌, ◌<◌, ◌≤◌, inl, inr, Bool, true, false, cond, Decides, List, [], ◌∷◌, ◌++◌, nat_eq, Some, None, get_or, refl, sym, ap, subst, ◌∙◌, arith}
use Rattle.std.specs.Map.{lookup}
use Rattle.std.specs.Cmp.{unsigned_Decides}
use Rattle.std.specs.Cmp.Lexicographic.{pointwise}
use Rattle.std.proofs.lemmas.Slice.Eq.{slice_eq-Decides}
use Rattle.std.proofs.lemmas.Bool.{cases_lt, cases_order}
use Rattle.std.proofs.lemmas.List.{get_or_append_left, get_or_at, length_push}
use Rattle.indexmap.specs.IndexMap.{IndexMap, get}
use Rattle.sta_min.specs.Firsts.{IsKept, AreFirsts, AreNumbers}

-- ---- the first ones have their own number

module _ {X : Type 0} (f : ℕ → X) (n : ℕ) (firsts : List ℕ) (is : AreFirsts f n firsts) where
  pub are_numbers : AreNumbers n firsts
  are_numbers = record {
    many = is.many;
    up_to = is.up_to;
    own = λ i low.
        let k : ℕ = get_or firsts i 0 in
        let k_low : k < n = omega (arith, is.up_to i low, low) in
        elim (cases_order (get_or firsts k 0) k) [
          | inl same ↦ same
          | inr (inl less) ↦ absurd (is.first i low (get_or firsts k 0) less (is.same k k_low ∙ is.same i low))
          | inr (inr more) ↦ absurd (omega (arith, is.up_to k k_low, more))
        ];
    first = λ i low j less e.
        let j_low : j < n = omega (arith, less, is.up_to i low, low) in
        is.first i low j less (sym (is.same j j_low) ∙ ap f e ∙ is.same i low);
  }

  -- one more
  pub firsts_more : (kept : ℕ) → kept ≤ n → f kept ≡ f n → ((j : ℕ) → j < kept → ¬ (f j ≡ f n)) → AreFirsts f (n + 1) (firsts ++ kept ∷ [])
  firsts_more kept up same first = record {
    many = omega (arith, length_push firsts kept, is.many);
    up_to = λ i low. elim (cases_lt i n) [
      | inl old ↦ omega (arith, at_old i old, is.up_to i old)
      | inr new ↦ omega (arith, at_new i low new, up, new)
    ];
    same = λ i low. elim (cases_lt i n) [
      | inl old ↦ ap f (at_old i old) ∙ is.same i old
      | inr new ↦ ap f (at_new i low new) ∙ same ∙ ap f (last i low new)
    ];
    first = λ i low j less e. elim (cases_lt i n) [
      | inl old ↦ is.first i old j (omega (arith, less, at_old i old)) e
      | inr new ↦ first j (omega (arith, less, at_new i low new)) (e ∙ sym (ap f (last i low new)))
    ];
  }
    where
      last : (i : ℕ) → i < n + 1 → n ≤ i → n ≡ i
      last i low new = omega (arith, low, new)

      at_old : (i : ℕ) → i < n → get_or (firsts ++ kept ∷ []) i 0 ≡ get_or firsts i 0
      at_old i old = get_or_append_left firsts (kept ∷ []) 0 i (omega (arith, old, is.many))

      at_new : (i : ℕ) → i < n + 1 → n ≤ i → get_or (firsts ++ kept ∷ []) i 0 ≡ kept
      at_new i low new = get_or_at firsts kept [] 0 i (is.many ∙ last i low new)

pub no_firsts : {X : Type 0} (f : ℕ → X) (n : ℕ) → n ≡ 0 → AreFirsts f n []
no_firsts f n e = record { many = sym e; up_to = λ i low. absurd (omega (arith, low, e)); same = λ i low. absurd (omega (arith, low, e)); first = λ i low. absurd (omega (arith, low, e)) }

pub firsts_of_same : {X : Type 0} (f g : ℕ → X) (n : ℕ) (firsts : List ℕ) → ((i : ℕ) → i < n → f i ≡ g i) → AreFirsts f n firsts → AreFirsts g n firsts
firsts_of_same f g n firsts same is = record {
  many = is.many;
  up_to = is.up_to;
  same = λ i low. sym (same (get_or firsts i 0) (omega (arith, is.up_to i low, low))) ∙ is.same i low ∙ same i low;
  first = λ i low j less e. is.first i low j less (same j (omega (arith, less, is.up_to i low, low)) ∙ e ∙ sym (same i low));
}

-- the same where other things are one exactly where these are
pub firsts_by : {X Y : Type 0} (f : ℕ → X) (g : ℕ → Y) (n : ℕ) (firsts : List ℕ) → ((i j : ℕ) → i < n → j < n → f i ≡ f j → g i ≡ g j) → ((i j : ℕ) → i < n → j < n → g i ≡ g j → f i ≡ f j) → AreFirsts f n firsts → AreFirsts g n firsts
firsts_by f g n firsts to from is = record {
  many = is.many;
  up_to = is.up_to;
  same = λ i low. to (get_or firsts i 0) i (omega (arith, is.up_to i low, low)) low (is.same i low);
  first = λ i low j less e. is.first i low j less (from j i (omega (arith, less, is.up_to i low, low)) low e);
}

-- ---- maps of first numbers

module _ {K Y : Type 0} (view : K → Y) (E : Y → Y → Bool) where
  abbrev pub equal : K → K → Bool
  equal x y = E (view x) (view y)

module _ {K Y S : Type 0} (view : K → Y) (E : Y → Y → Bool) (decides : (x y : Y) → Decides (E x y) (x ≡ y)) (f : ℕ → Y) where
  -- of the first n things those that are there have the number of the first that is equal
  pub record IsFirstMap (n : ℕ) (m : IndexMap K ℕ S) : Type 0 where
    pub told : (key : K) (k : ℕ) → get (equal view E) m key ≡ Some k → (k < n) × (f k ≡ view key) × ((j : ℕ) → j < k → ¬ (f j ≡ view key))
    pub none : (key : K) → get (equal view E) m key ≡ None → (j : ℕ) → j < n → ¬ (f j ≡ view key)

  pub empty_map : (n : ℕ) (m : IndexMap K ℕ S) → n ≡ 0 → m.entries ≡ [] → IsFirstMap n m
  empty_map n m e is = record {
    told = λ key k h. (let none : get (equal view E) m key ≡ None = ap (lookup (equal view E key)) is in absurd (cc (none, h)));
    none = λ key h j low. absurd (omega (arith, low, e));
  }

  module _ (n : ℕ) (old new : IndexMap K ℕ S) (is : IsFirstMap n old) (key : K) (here : f n ≡ view key) (kept : ℕ) (keeps : IsKept (equal view E) old new key n kept) where
    pub record IsNextMap : Type 0 where
      pub map : IsFirstMap (n + 1) new
      pub up_to : kept ≤ n
      pub same : f kept ≡ f n
      pub first : (j : ℕ) → j < kept → ¬ (f j ≡ f n)

    found : get (equal view E) old key ≡ Some kept → new ≡ old → IsNextMap
    found there unchanged =
        let h : (kept < n) × (f kept ≡ view key) × ((j : ℕ) → j < kept → ¬ (f j ≡ view key)) = is.told key kept there in
        record {
          map = subst (IsFirstMap (n + 1)) (sym unchanged) (record {
            told = λ other k at. (let (low, same, first) = is.told other k at in (omega (arith, low), same, first));
            none = λ other none j low e. elim (cases_lt j n) [
              | inl before ↦ is.none other none j before e
              | inr after ↦ (
                  let last : n ≡ j = omega (arith, low, after) in
                  let one : view key ≡ view other = sym here ∙ ap f last ∙ e in
                  let gone : get (equal view E) old key ≡ None = ap (λ l. lookup (λ y. E l (view y)) old.entries) one ∙ none in
                  absurd (cc (gone, there)))
            ];
          });
          up_to = omega (arith, h.0);
          same = h.1 ∙ sym here;
          first = λ j less e. h.2 j less (e ∙ here);
        }

    added : get (equal view E) old key ≡ None → kept ≡ n → ((q : K) → get (equal view E) new q ≡ cond (equal view E key q) (Some n) (get (equal view E) old q)) → IsNextMap
    added none at_end puts = record {
      map = record { told = λ other k at. told other k (equal view E key other) refl at; none = λ other gone j low e. gone_from other (equal view E key other) refl gone j low e };
      up_to = omega (arith, at_end);
      same = ap f at_end;
      first = λ j less e. is.none key none j (omega (arith, less, at_end)) (e ∙ here);
    }
      where
        put : (other : K) (b : Bool) → equal view E key other ≡ b → get (equal view E) new other ≡ cond b (Some n) (get (equal view E) old other)
        put other b h = puts other ∙ ap (λ t. cond t (Some n) (get (equal view E) old other)) h

        told : (other : K) (k : ℕ) (b : Bool) → equal view E key other ≡ b → get (equal view E) new other ≡ Some k → (k < n + 1) × (f k ≡ view other) × ((j : ℕ) → j < k → ¬ (f j ≡ view other))
        told other k true same at =
            let one : view key ≡ view other = (decides (view key) (view other)).0 same in
            let is_n : Some n ≡ Some k = sym (put other true same) ∙ at in
            let k_is : n ≡ k = cc in (
              omega (arith, k_is),
              ap f (sym k_is) ∙ here ∙ one,
              λ j less e. is.none key none j (omega (arith, less, k_is)) (e ∙ sym one),
            )
        told other k false differ at =
            let (low, same, first) = is.told other k (sym (put other false differ) ∙ at) in
            (omega (arith, low), same, first)

        gone_from : (other : K) (b : Bool) → equal view E key other ≡ b → get (equal view E) new other ≡ None → (j : ℕ) → j < n + 1 → f j ≡ view other → ⊥
        gone_from other true same gone j low e = (let there : get (equal view E) new other ≡ Some n = put other true same in cc (there, gone))
        gone_from other false differ gone j low e = elim (cases_lt j n) [
          | inl before ↦ is.none other (sym (put other false differ) ∙ gone) j before e
          | inr after ↦ (
              let last : n ≡ j = omega (arith, low, after) in
              let same : equal view E key other ≡ true = (decides (view key) (view other)).1 (sym here ∙ ap f last ∙ e) in
              cc (same, differ))
        ]

    pub next_map : IsNextMap
    next_map = elim keeps [ inl h ↦ found h.0 h.1 | inr h ↦ added h.0 h.1 h.2.0 ]

pub decides_lists : (x y : List ℕ) → Decides (pointwise nat_eq x y) (x ≡ y)
decides_lists x y = slice_eq-Decides unsigned_Decides x y (pointwise nat_eq x y) refl
