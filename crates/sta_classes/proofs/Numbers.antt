-- The rules with some numbers, one after the other.
use Rattle.std.proofs.Common.{ℕ, zero, suc, ◌≡◌, ◌<◌, ◌≤◌, ◌+◌, Bool, true, false, true≢false, cond, List, [], ◌∷◌, ◌++◌, get_or, set, length, map, take, replicate, refl, sym, ap, ap₂, ◌∙◌, arith, inl, inr, ◌↔◌, add-one, append-nil, take_all}
use Rattle.std.proofs.lemmas.Bool.{cases_lt, cases_eq}
use Rattle.std.proofs.lemmas.List.{get_or-set_same, get_or-set_other}
use Rattle.model_sta.specs.Sets.{Row, has}
use Rattle.model_sta.proofs.Reached.{same_default}
use Rattle.sta_classes.specs.Applying.{chosen, IsTakenTo}

module _ {X Y : Type 0} (f : X → Y) where
  chosen_step : (bs : List Bool) (xs : List X) (i : ℕ) (x : X) → i < length xs → get_or xs i x ≡ x → chosen (take (suc i) bs) (map f (take (suc i) xs)) ≡ chosen (take i bs) (map f (take i xs)) ++ cond (get_or bs i false) (f x ∷ []) []
  chosen_step [] xs i x low at = empty (take (suc i) xs) (take i xs) i
    where
      none : (j : ℕ) → ◌≡◌ {A = List Bool} (take j []) []
      none zero = refl
      none (suc j) = refl

      empty : (ys zs : List X) (j : ℕ) → chosen (take (suc j) []) (map f ys) ≡ chosen (take j []) (map f zs) ++ cond (get_or [] j false) (f x ∷ []) []
      empty ys zs zero = refl
      empty ys zs (suc j) = refl
  chosen_step (d ∷ bs) [] i x low at = absurd (omega arith)
  chosen_step (true ∷ bs) (y ∷ xs) zero x low at = ap (λ z. f z ∷ []) at
  chosen_step (false ∷ bs) (y ∷ xs) zero x low at = refl
  chosen_step (true ∷ bs) (y ∷ xs) (suc i) x low at = ap (λ l. f y ∷ l) (chosen_step bs xs i x (omega arith) at)
  chosen_step (false ∷ bs) (y ∷ xs) (suc i) x low at = chosen_step bs xs i x (omega arith) at

  chosen_front : (bs : List Bool) (ys : List Y) (i : ℕ) → length ys ≤ i → chosen (take i bs) ys ≡ chosen bs ys
  chosen_front [] ys zero low = refl
  chosen_front [] ys (suc i) low = refl
  chosen_front (true ∷ bs) [] zero low = refl
  chosen_front (false ∷ bs) [] zero low = refl
  chosen_front (true ∷ bs) [] (suc i) low = refl
  chosen_front (false ∷ bs) [] (suc i) low = refl
  chosen_front (b ∷ bs) (y ∷ ys) zero low = absurd (omega arith)
  chosen_front (true ∷ bs) (y ∷ ys) (suc i) low = ap (λ l. y ∷ l) (chosen_front bs ys i (omega arith))
  chosen_front (false ∷ bs) (y ∷ ys) (suc i) low = chosen_front bs ys i (omega arith)

  module _ {Z : Type 0} (plain : Z → Y) (bs : List Bool) (xs : List X) (i : ℕ) (x : X) (low : i < length xs) (at : x ≡ get_or xs i x) (old new : List Z) (begun : map plain old ≡ chosen (take i bs) (map f (take i xs))) where
    pub chosen_added : (z : Z) → true ≡ get_or bs i false → map plain new ≡ map plain old ++ plain z ∷ [] → plain z ≡ f x → map plain new ≡ chosen (take (i + 1) bs) (map f (take (i + 1) xs))
    chosen_added z has is same =
        is ∙ ap₂ (λ a b. a ++ b ∷ []) begun same ∙ ap (λ b. chosen (take i bs) (map f (take i xs)) ++ cond b (f x ∷ []) []) has
        ∙ sym (chosen_step bs xs i x low (sym at)) ∙ ap (λ k. chosen (take k bs) (map f (take k xs))) (sym (add-one i))

    pub chosen_passed : false ≡ get_or bs i false → new ≡ old → map plain new ≡ chosen (take (i + 1) bs) (map f (take (i + 1) xs))
    chosen_passed hasn't is =
        ap (map plain) is ∙ begun ∙ sym (append-nil (chosen (take i bs) (map f (take i xs)))) ∙ ap (λ b. chosen (take i bs) (map f (take i xs)) ++ cond b (f x ∷ []) []) hasn't
        ∙ sym (chosen_step bs xs i x low (sym at)) ∙ ap (λ k. chosen (take k bs) (map f (take k xs))) (sym (add-one i))

  pub chosen_all : (bs : List Bool) (xs : List X) (i : ℕ) → length xs ≤ i → (ys : List Y) → ys ≡ chosen (take i bs) (map f (take i xs)) → ys ≡ chosen bs (map f xs)
  chosen_all bs xs i high ys e = e ∙ ap (λ z. chosen (take i bs) (map f z)) (take_all i xs high) ∙ chosen_front bs (map f xs) i (omega (arith, high, mapped xs))
    where
      mapped : (zs : List X) → length (map f zs) ≡ length zs
      mapped [] = refl
      mapped (z ∷ zs) = ap suc (mapped zs)

-- an element with one of the numbers below n is taken to the number
abbrev pub IsTakenBelow : {X : Type 0} → (X → ℕ) → ℕ → List X → Row → ℕ → Type 0
IsTakenBelow {X} to n list numbers s = (i : ℕ) × (i < n) × (i < length list) × (has numbers i ≡ true) × (x : X) × (get_or list i x ≡ x) × (to x ≡ s)

none_there : (n s : ℕ) → get_or (replicate n false) s false ≡ false
none_there zero s = refl
none_there (suc n) zero = refl
none_there (suc n) (suc s) = none_there n s

module _ {X : Type 0} (to : X → ℕ) (list : List X) (numbers : Row) where
  pub fired_first : (row : Row) (states n : ℕ) → row ≡ replicate states false → ((i : ℕ) → 0 ≤ i → i < n → has numbers i ≡ false) → (s : ℕ) → has row s ≡ true ↔ IsTakenBelow to n list numbers s
  fired_first row states n e none s = (
    (λ h. absurd (true≢false (sym h ∙ ap (λ r. has r s) e ∙ none_there states s))),
    (λ w. let (i, below, low, is, x, at, there) = w in absurd (true≢false (sym is ∙ none i (omega arith) below))),
  )

  pub fired_more : (old new : Row) (i n : ℕ) (x : X) → to x < length old → i < length list → x ≡ get_or list i x → has numbers i ≡ true → new ≡ set old (to x) true → i + 1 ≤ n → ((k : ℕ) → i + 1 ≤ k → k < n → has numbers k ≡ false)
      → ((s : ℕ) → has old s ≡ true ↔ IsTakenBelow to i list numbers s) → (s : ℕ) → has new s ≡ true ↔ IsTakenBelow to n list numbers s
  fired_more old new i n x to_low low at is e after none h s = (
    (λ k. elim (cases_eq s (to x)) [
      | inl same ↦ (i, omega (arith, after), low, is, x, sym at, sym same)
      | inr other ↦
          let (j, below, j_low, j_is, y, y_at, y_to) = (h s).0 (sym (ap (λ r. has r s) e ∙ get_or-set_other old (to x) s true false other) ∙ k) in
          (j, omega (arith, below, after), j_low, j_is, y, y_at, y_to)
    ]),
    (λ w.
        let (j, below, j_low, j_is, y, y_at, y_to) = w in
        elim (cases_eq s (to x)) [
          | inl same ↦ ap (λ r. has r s) e ∙ ap (λ k. has (set old (to x) true) k) same ∙ get_or-set_same old (to x) true false to_low
          | inr other ↦ elim (cases_lt j i) [
            | inl before ↦ ap (λ r. has r s) e ∙ get_or-set_other old (to x) s true false other ∙ (h s).1 (j, before, j_low, j_is, y, y_at, y_to)
            | inr past ↦ elim (cases_eq j i) [
              | inl here ↦ absurd (other (sym y_to ∙ ap to (sym y_at ∙ ap (λ k. get_or list k y) here ∙ same_default list i y x low ∙ sym at)))
              | inr later ↦ absurd (true≢false (sym j_is ∙ none j (omega (arith, past, later)) below))
            ]
          ]
        ]),
  )

  pub fired_last : (row : Row) (n : ℕ) → length list ≤ n → ((s : ℕ) → has row s ≡ true ↔ IsTakenBelow to n list numbers s) → (s : ℕ) → has row s ≡ true ↔ IsTakenTo to list numbers s
  fired_last row n high h s = (
    (λ k. let (i, below, low, is, x, at, there) = (h s).0 k in (i, low, is, x, at, there)),
    (λ w. let (i, low, is, x, at, there) = w in (h s).1 (i, omega (arith, low, high), low, is, x, at, there)),
  )
