-- The bounds of a system.
use Rattle.std.proofs.Common.{◌≡◌, ℕ, zero, suc, ◌+◌, ◌<◌, inl, inr, ⊎_elim, List, [], ◌∷◌, ◌++◌, length, get_or, Bool, true, false, arith, refl, sym, ap, subst, ◌∙◌}
use Rattle.std.specs.List.{All, Contains}
use Rattle.std.proofs.lemmas.Bool.{cases_eq}
use Rattle.std.proofs.lemmas.List.{get_or_default}
use Rattle.std.proofs.lemmas.List.Elements.{All-nil, All-cons, All-push, Contains-append_left, Contains-push}
use Rattle.math_cooper.specs.System.{Condition, Affine, low_form, high_form}
use Rattle.math_cooper.specs.Puts.{Put, IsPut}
use Rattle.cooper_solve.specs.declared.constraint.Direction.TheVariants.{Low, High, Free}
use Rattle.cooper_solve.specs.Views.{IsBoundAt, AreBounds, AreBases, IsBase, base_form, no_condition}

abbrev at : List Condition → ℕ → Condition
at S k = get_or S k no_condition

pub bounds_none : (low : Bool) (i : ℕ) (S : List Condition) (L : List ℕ) → L ≡ [] → AreBounds low i S 0 L
bounds_none low i S L e = subst (AreBounds low i S 0) (sym e) (record { each = All-nil (λ k. (k < length S) × IsBoundAt low i (at S k)); covers = λ k h l b. absurd (omega arith) })

module _ (low : Bool) (i : ℕ) (S : List Condition) (n : ℕ) (L : List ℕ) (before : AreBounds low i S n L) where
  one_more : (M : List ℕ) → ((m : ℕ) → Contains L m → Contains M m) → (IsBoundAt low i (at S n) → (m : ℕ) × Contains M m × (at S m ≡ at S n)) → (k : ℕ) → k < n + 1 → k < length S → IsBoundAt low i (at S k) → (m : ℕ) × Contains M m × (at S m ≡ at S k)
  one_more M grows own k h l b = ⊎_elim
      (λ e. let r = own (subst (λ j. IsBoundAt low i (at S j)) e b) in (r.0, r.1, r.2 ∙ ap (at S) (sym e)))
      (λ ne. let r = before.covers k (omega arith) l b in (r.0, grows r.0 r.1, r.2))
      (cases_eq k n)

  pub bounds_other : (IsBoundAt low i (at S n) → ⊥) → AreBounds low i S (n + 1) L
  bounds_other unbound = record { each = before.each; covers = one_more L (λ m h. h) (λ b. absurd (unbound b)) }

  pub bounds_listed : (m : ℕ) → Contains L m → at S m ≡ at S n → AreBounds low i S (n + 1) L
  bounds_listed m h e = record { each = before.each; covers = one_more L (λ m h. h) (λ b. (m, h, e)) }

  pub bounds_push : (M : List ℕ) → M ≡ L ++ n ∷ [] → n < length S → IsBoundAt low i (at S n) → AreBounds low i S (n + 1) M
  bounds_push M e l b = subst (AreBounds low i S (n + 1)) (sym e) (record {
    each = All-push (λ k. (k < length S) × IsBoundAt low i (at S k)) L n before.each (l, b);
    covers = one_more (L ++ n ∷ []) (λ m h. Contains-append_left L (n ∷ []) m h) (λ _. (n, Contains-push L n, refl));
  })

pub within : (low : Bool) (i : ℕ) (S : List Condition) (n : ℕ) (L : List ℕ) → AreBounds low i S n L → All (λ k. k < length S) L
within low i S n L b k d l = (b.each k d l).0

-- ---- no bound of the kind

none_of : (low : Bool) (i : ℕ) (S : List Condition) (L : List ℕ) → AreBounds low i S (length S) L → length L ≡ 0 → All (λ c. IsBoundAt low i c → ⊥) S
none_of low i S L b e k d l h =
    let same = get_or_default S k d no_condition l in
    let r = b.covers k l l (subst (IsBoundAt low i) same h) in
    let c = r.1.1 in
    omega arith

some_of : (low : Bool) (i : ℕ) (S : List Condition) (L : List ℕ) → AreBounds low i S (length S) L → (length L ≡ 0 → ⊥) → All (λ c. IsBoundAt low i c → ⊥) S → ⊥
some_of low i S L b n none =
    let k = get_or L 0 0 in
    let first : 0 < length L = by (length L) n in
    let r = b.each 0 0 first in
    none k no_condition r.0 r.1
  where
    by : (m : ℕ) → (m ≡ 0 → ⊥) → 0 < m
    by zero n = absurd (n refl)
    by (suc m) n = omega arith

covered : (low : Bool) (i : ℕ) (S : List Condition) (L : List ℕ) (k : ℕ) (b : Condition) → AreBounds low i S (length S) L → k < length S → get_or S k b ≡ b → IsBoundAt low i b → (m : ℕ) × Contains L m × (at S m ≡ b)
covered low i S L k b a l e h =
    let same : at S k ≡ b = get_or_default S k no_condition b l ∙ e in
    let r = a.covers k l l (subst (IsBoundAt low i) (sym same) h) in
    (r.0, r.1, r.2 ∙ same)

pub low_bases : (i : ℕ) (S : List Condition) (L : List ℕ) → AreBounds true i S (length S) L → (length L ≡ 0 → ⊥) → AreBases i S Low L
low_bases i S L a n = record {
  each = λ k d l. let r = a.each k d l in (r.0, λ j. inl (at S (get_or L k d), (r.0, get_or_default S (get_or L k d) (at S (get_or L k d)) no_condition r.0), r.1, refl));
  covers = covers;
}
  where
    covers : (p : Put) (g : Affine) → IsPut i S p g → (k : ℕ) × Contains L k × (g ≡ base_form Low i S k p.offset)
    covers p g (inl (b, is, l, e)) = let r = covered true i S L p.bound b a is.0 is.1 l in (r.0, r.1, e ∙ ap (λ c. low_form i c p.offset) (sym r.2))
    covers p g (inr (inl (none, b, is, l, e))) = absurd (some_of true i S L a n none)
    covers p g (inr (inr (none, none2, f, e))) = absurd (some_of true i S L a n none)

pub high_bases : (i : ℕ) (S : List Condition) (K L : List ℕ) → AreBounds true i S (length S) K → length K ≡ 0 → AreBounds false i S (length S) L → (length L ≡ 0 → ⊥) → AreBases i S High L
high_bases i S K L low none a n = record {
  each = λ k d l. let r = a.each k d l in (r.0, λ j. inr (inl (none_of true i S K low none, at S (get_or L k d), (r.0, get_or_default S (get_or L k d) (at S (get_or L k d)) no_condition r.0), r.1, refl)));
  covers = covers;
}
  where
    covers : (p : Put) (g : Affine) → IsPut i S p g → (k : ℕ) × Contains L k × (g ≡ base_form High i S k p.offset)
    covers p g (inl (b, is, l, e)) = let r = covered true i S K p.bound b low is.0 is.1 l in let c = r.1.1 in absurd (omega arith)
    covers p g (inr (inl (lows, b, is, l, e))) = let r = covered false i S L p.bound b a is.0 is.1 l in (r.0, r.1, e ∙ ap (λ c. high_form i c p.offset) (sym r.2))
    covers p g (inr (inr (lows, highs, f, e))) = absurd (some_of false i S L a n highs)

pub free_bases : (i : ℕ) (S : List Condition) (K L M : List ℕ) → AreBounds true i S (length S) K → length K ≡ 0 → AreBounds false i S (length S) L → length L ≡ 0 → M ≡ length S ∷ [] → AreBases i S Free M
free_bases i S K L M low none high none2 e = subst (AreBases i S Free) (sym e) (record {
  each = All-cons (λ k. IsBase Free S k × ((j : ℕ) → IsPut i S (record { variable = i; bound = k; offset = j }) (base_form Free i S k j))) (length S) [] (tt, λ j. inr (inr (none_of true i S K low none, none_of false i S L high none2, refl, refl)))
      (All-nil (λ k. IsBase Free S k × ((j : ℕ) → IsPut i S (record { variable = i; bound = k; offset = j }) (base_form Free i S k j))));
  covers = covers;
})
  where
    covers : (p : Put) (g : Affine) → IsPut i S p g → (k : ℕ) × Contains (length S ∷ []) k × (g ≡ base_form Free i S k p.offset)
    covers p g (inl (b, is, l, e)) = let r = covered true i S K p.bound b low is.0 is.1 l in let c = r.1.1 in absurd (omega arith)
    covers p g (inr (inl (lows, b, is, l, e))) = let r = covered false i S L p.bound b high is.0 is.1 l in let c = r.1.1 in absurd (omega arith)
    covers p g (inr (inr (lows, highs, f, e))) = (length S, (0, omega arith, refl), e)
