-- Facts on what lists have that grow.
use Rattle.std.proofs.Common.{ℕ, zero, suc, ◌≡◌, ◌<◌, ◌≤◌, ◌+◌, ◌⊎◌, inl, inr, List, [], ◌∷◌, ◌++◌, length, get_or, Contains, refl, sym, ap, subst, ◌∙◌, arith}
use Rattle.std.proofs.lemmas.Bool.{cases_lt}
use Rattle.std.proofs.lemmas.List.Elements.{Contains-append_left, Contains-push, Contains-push_cases}
use Rattle.model_sta.proofs.Reached.{same_default}
use Rattle.sta_classes.specs.Grow.{Grown, Some}

pub nowhere : {X : Type 0} (x : X) → ¬ Contains [] x
nowhere x h = let low : h.0 < 0 = h.1 in omega arith

pub grown_none : {X : Type 0} (a : List X) (W : X → Type 0) → ((p : X) → ¬ W p) → Grown a a W
grown_none a W none p = (inl, (λ h. elim h [ inl old ↦ old | inr w ↦ absurd (none p w) ]))

pub grown_then : {X : Type 0} (a b c : List X) (V W U : X → Type 0) → Grown a b V → Grown b c W → ((p : X) → U p → V p ⊎ W p) → ((p : X) → V p → U p) → ((p : X) → W p → U p) → Grown a c U
grown_then a b c V W U f g split v w p = (
  (λ h. elim (((g p).0) h) [ inl old ↦ elim (((f p).0) old) [ inl older ↦ inl older | inr x ↦ inr (v p x) ] | inr y ↦ inr (w p y) ]),
  (λ h. elim h [ inl older ↦ ((g p).1) (inl (((f p).1) (inl older))) | inr u ↦ elim (split p u) [ inl x ↦ ((g p).1) (inl (((f p).1) (inr x))) | inr y ↦ ((g p).1) (inr y) ] ]),
)

pub grown_push : {X : Type 0} (b : List X) (q : X) → Grown b (b ++ q ∷ []) (λ p. q ≡ p)
grown_push b q p = (
  (λ h. Contains-push_cases b q p h),
  (λ h. elim h [ inl old ↦ Contains-append_left b (q ∷ []) p old | inr e ↦ subst (Contains (b ++ q ∷ [])) e (Contains-push b q) ]),
)

-- what is there already
pub grown_there : {X : Type 0} (b : List X) (q : X) → Contains b q → Grown b b (λ p. q ≡ p)
grown_there b q there p = (inl, (λ h. elim h [ inl old ↦ old | inr e ↦ subst (Contains b) e there ]))

pub grown_same : {X : Type 0} (a b : List X) (V U : X → Type 0) → Grown a b V → ((p : X) → V p → U p) → ((p : X) → U p → V p) → Grown a b U
grown_same a b V U f v u p =
    ((λ h. elim (((f p).0) h) [ inl old ↦ inl old | inr x ↦ inr (v p x) ]), (λ h. elim h [ inl old ↦ ((f p).1) (inl old) | inr x ↦ ((f p).1) (inr (u p x)) ]))

-- what the elements before number i want, and all of them
abbrev pub Before : {X Y : Type 0} → (X → Y → Type 0) → List X → ℕ → Y → Type 0
Before {X} R xs i p = (k : ℕ) × (k < i) × (k < length xs) × (r : X) × (get_or xs k r ≡ r) × R r p

module _ {X Y : Type 0} (R : X → Y → Type 0) (xs : List X) where
  pub grown_first : (a b : List Y) → b ≡ a → Grown a b (Before R xs 0)
  grown_first a b e = subst (λ l. Grown a l (Before R xs 0)) (sym e) (grown_none a (Before R xs 0) (λ p w. (let low : w.0 < 0 = w.1 in omega arith)))

  pub grown_more : (a b c : List Y) (i : ℕ) (x : X) → i < length xs → x ≡ get_or xs i x → Grown a b (Before R xs i) → Grown b c (R x) → Grown a c (Before R xs (i + 1))
  grown_more a b c i x low at f g =
      grown_then a b c (Before R xs i) (R x) (Before R xs (i + 1)) f g
      (λ p w. (let (k, below, inside, r, is, want) = w in split p k below inside r is want))
      (λ p w. (let (k, below, inside, r, is, want) = w in (k, omega arith, inside, r, is, want)))
      (λ p w. (i, omega arith, low, x, sym at, w))
    where
      split : (p : Y) (k : ℕ) → k < i + 1 → k < length xs → (r : X) → get_or xs k r ≡ r → R r p → Before R xs i p ⊎ R x p
      split p k below inside r is want = elim (cases k i (omega arith)) [
        | inl less ↦ inl (k, less, inside, r, is, want)
        | inr same ↦ inr (subst (λ z. R z p) (sym is ∙ ap (λ n. get_or xs n r) same ∙ same_default xs i r x low ∙ sym at) want)
      ]
        where
          cases : (m n : ℕ) → m < suc n → (m < n) ⊎ (m ≡ n)
          cases zero zero l = inr refl
          cases zero (suc n) l = inl (omega arith)
          cases (suc m) zero l = absurd (omega arith)
          cases (suc m) (suc n) l = elim (cases m n (omega arith)) [ inl h ↦ inl (omega arith) | inr e ↦ inr (ap suc e) ]

  pub grown_all : (a b : List Y) (i : ℕ) → length xs ≤ i → Grown a b (Before R xs i) → Grown a b (Some R xs)
  grown_all a b i end f =
      grown_same a b (Before R xs i) (Some R xs) f
      (λ p w. (let (k, below, inside, r, is, want) = w in (r, (k, inside, is), want)))
      (λ p w. (let (r, (k, inside, is), want) = w in (k, omega arith, inside, r, is, want)))

-- the same where what an element wants depends on its number
abbrev pub Numbered : {X Y : Type 0} → (ℕ → X → Y → Type 0) → List X → ℕ → Y → Type 0
Numbered {X} R xs i p = (k : ℕ) × (k < i) × (k < length xs) × (r : X) × (get_or xs k r ≡ r) × R k r p

module _ {X Y : Type 0} (R : ℕ → X → Y → Type 0) (xs : List X) where
  pub numbered_first : (a b : List Y) → b ≡ a → Grown a b (Numbered R xs 0)
  numbered_first a b e = subst (λ l. Grown a l (Numbered R xs 0)) (sym e) (grown_none a (Numbered R xs 0) (λ p w. (let low : w.0 < 0 = w.1 in omega arith)))

  pub numbered_more : (a b c : List Y) (i : ℕ) (x : X) → i < length xs → x ≡ get_or xs i x → Grown a b (Numbered R xs i) → Grown b c (R i x) → Grown a c (Numbered R xs (i + 1))
  numbered_more a b c i x low at f g =
      grown_then a b c (Numbered R xs i) (R i x) (Numbered R xs (i + 1)) f g
      (λ p w. (let (k, below, inside, r, is, want) = w in split p k below inside r is want))
      (λ p w. (let (k, below, inside, r, is, want) = w in (k, omega arith, inside, r, is, want)))
      (λ p w. (i, omega arith, low, x, sym at, w))
    where
      split : (p : Y) (k : ℕ) → k < i + 1 → k < length xs → (r : X) → get_or xs k r ≡ r → R k r p → Numbered R xs i p ⊎ R i x p
      split p k below inside r is want = elim (cases_lt k i) [
        | inl less ↦ inl (k, less, inside, r, is, want)
        | inr past ↦
            let same : k ≡ i = omega (arith, past, below) in
            inr (subst (λ n. R n x p) same (subst (λ z. R k z p) (sym is ∙ ap (λ n. get_or xs n r) same ∙ same_default xs i r x low ∙ sym at) want))
      ]

  pub numbered_all : (a b : List Y) (i : ℕ) → length xs ≤ i → Grown a b (Numbered R xs i) → Grown a b (Numbered R xs (length xs))
  numbered_all a b i end f =
      grown_same a b (Numbered R xs i) (Numbered R xs (length xs)) f
      (λ p w. (let (k, below, inside, r, is, want) = w in (k, inside, inside, r, is, want)))
      (λ p w. (let (k, below, inside, r, is, want) = w in (k, omega (arith, below, end), inside, r, is, want)))
