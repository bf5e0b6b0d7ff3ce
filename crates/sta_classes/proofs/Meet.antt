-- Facts on rows that are met, and on the next number of a row.
use Rattle.std.proofs.Common.{ℕ, zero, suc, ◌≡◌, ◌<◌, ◌≤◌, ◌/◌, ◌%◌, ◌^◌, ◌==◌, ◌&&◌, Bool, false, List, [], ◌∷◌, get_or, length, map, refl, sym, ap, ap₂, subst, ◌∙◌, arith, inl, inr}
use Rattle.std.specs.Prelude.{bit_and, min}
use Rattle.std.specs.Int.{bit_at}
use Rattle.std.specs.Int.Bits.{and_lt}
use Rattle.std.proofs.lemmas.Bool.{cases_lt}
use Rattle.std.proofs.lemmas.List.{get_or_past}
use Rattle.std.proofs.lemmas.Nat.Bits.{bit_at_and, bit_at-lt, bit_at-zero}
use Rattle.sta_classes.specs.Bits.{bits_of, both}
use Rattle.model_sta.proofs.Tabled.{tabulated}
use Rattle.sta_classes.proofs.Bits.{AreTidy, bits_at, bits_length}

met_bit : (a b i : ℕ) → ((bit_at a i == 1) && (bit_at b i == 1)) ≡ (bit_at (bit_and a b) i == 1)
met_bit a b i = one (bit_at a i) (bit_at b i) (bit_at-lt a i) (bit_at-lt b i) ∙ ap (λ z. z == 1) (sym (bit_at_and a b i))
  where
    one : (x y : ℕ) → x < 2 → y < 2 → ((x == 1) && (y == 1)) ≡ (min x y == 1)
    one zero zero h k = refl
    one zero (suc zero) h k = refl
    one zero (suc (suc y)) h k = absurd (omega (arith, k))
    one (suc zero) zero h k = refl
    one (suc zero) (suc zero) h k = refl
    one (suc zero) (suc (suc y)) h k = absurd (omega (arith, k))
    one (suc (suc x)) y h k = absurd (omega (arith, h))

pub both_at : (p q : List Bool) (i : ℕ) → length q ≡ length p → get_or (both p q) i false ≡ (get_or p i false && get_or q i false)
both_at [] q i e = refl
both_at (b ∷ p) [] i e = absurd (omega (arith, e))
both_at (b ∷ p) (d ∷ q) zero e = refl
both_at (b ∷ p) (d ∷ q) (suc i) e = both_at p q i (omega (arith, e))

pub both_length : (p q : List Bool) → length q ≡ length p → length (both p q) ≡ length p
both_length [] q e = refl
both_length (b ∷ p) [] e = absurd (omega (arith, e))
both_length (b ∷ p) (d ∷ q) e = ap suc (both_length p q (omega (arith, e)))

pub both_maps : {X : Type 0} (f g : X → Bool) (xs : List X) → both (map f xs) (map g xs) ≡ map (λ x. f x && g x) xs
both_maps f g [] = refl
both_maps f g (x ∷ xs) = ap (λ r. (f x && g x) ∷ r) (both_maps f g xs)

module _ (n m : ℕ) (v w : List ℕ) (p q : List Bool) (at_v : bits_of n v ≡ p) (at_w : bits_of m w ≡ q) (same : length q ≡ length p) where
  pub places_same : m ≡ n
  places_same = sym (bits_length m w) ∙ ap length at_w ∙ same ∙ ap length (sym at_v) ∙ bits_length n v

  -- words with the bits that both have
  pub met_tidy : (u : List ℕ) → AreTidy n v → AreTidy m w → length u ≡ length v → ((i : ℕ) → i < length v → get_or u i 0 ≡ bit_and (get_or v i 0) (get_or w i 0)) → AreTidy n u
  met_tidy u tidy tidy_w long each = record {
    many = long ∙ tidy.many;
    low = λ k. elim (cases_lt k (length v)) [
      | inl inside ↦ subst (λ x. x < 2 ^ 64) (sym (each k inside)) (and_lt 64 (get_or v k 0) (get_or w k 0) (tidy.low k) (tidy_w.low k))
      | inr past ↦ subst (λ x. x < 2 ^ 64) (sym (get_or_past u k 0 (omega (arith, long, past)))) (omega arith)
    ];
    clear = λ i above. elim (cases_lt (i / 64) (length v)) [
      | inl inside ↦
          ap (λ x. bit_at x (i % 64)) (each (i / 64) inside) ∙ bit_at_and (get_or v (i / 64) 0) (get_or w (i / 64) 0) (i % 64)
          ∙ ap (λ x. min x (bit_at (get_or w (i / 64) 0) (i % 64))) (tidy.clear i above) ∙ least (bit_at (get_or w (i / 64) 0) (i % 64)) (bit_at-lt (get_or w (i / 64) 0) (i % 64))
      | inr past ↦ ap (λ x. bit_at x (i % 64)) (get_or_past u (i / 64) 0 (omega (arith, long, past))) ∙ bit_at-zero (i % 64)
    ];
  }
    where
      least : (y : ℕ) → y < 2 → min 0 y ≡ 0
      least zero k = refl
      least (suc zero) k = refl
      least (suc (suc y)) k = absurd (omega (arith, k))

  pub met_is : (u : List ℕ) → AreTidy n v → length u ≡ length v → ((i : ℕ) → i < length v → get_or u i 0 ≡ bit_and (get_or v i 0) (get_or w i 0)) → bits_of n u ≡ both p q
  met_is u tidy long each =
      sym (tabulated (both p q) n (λ i. bit_at (get_or u (i / 64) 0) (i % 64) == 1) false (both_length p q same ∙ ap length (sym at_v) ∙ bits_length n v) (λ i low.
      both_at p q i same
      ∙ ap₂ (λ a b. a && b) (ap (λ r. get_or r i false) (sym at_v) ∙ bits_at n v i low) (ap (λ r. get_or r i false) (sym at_w) ∙ bits_at m w i (omega (arith, low, places_same)))
      ∙ met_bit (get_or v (i / 64) 0) (get_or w (i / 64) 0) (i % 64) ∙ ap (λ x. bit_at x (i % 64) == 1) (sym (each (i / 64) (omega (arith, low, tidy.many))))))

-- the numbers of a word
module _ (n : ℕ) (words : List ℕ) (p : List Bool) (is : bits_of n words ≡ p) where
  -- past all numbers there is none
  pub none_past : (i : ℕ) → n ≤ i → get_or p i false ≡ false
  none_past i high = get_or_past p i false (omega (arith, ap length (sym is), bits_length n words, high))

  pub bit_is : (i : ℕ) → i < n → get_or p i false ≡ (bit_at (get_or words (i / 64) 0) (i % 64) == 1)
  bit_is i low = ap (λ r. get_or r i false) (sym is) ∙ bits_at n words i low

  -- a word that is 0 has none
  pub none_of_word : (place i : ℕ) → get_or words (place / 64) 0 ≡ 0 → i / 64 ≡ place / 64 → get_or p i false ≡ false
  none_of_word place i clear same = elim (cases_lt i n) [
    | inl low ↦ bit_is i low ∙ ap (λ k. bit_at (get_or words k 0) (i % 64) == 1) same ∙ ap (λ w. bit_at w (i % 64) == 1) clear ∙ ap (λ b. b == 1) (bit_at-zero (i % 64))
    | inr high ↦ none_past i high
  ]
