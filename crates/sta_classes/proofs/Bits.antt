-- Facts on bits of words.
use Rattle.std.proofs.Common.{ℕ, zero, suc, ◌≡◌, ◌<◌, ◌≤◌, ◌+◌, ◌*◌, ◌/◌, ◌%◌, ◌^◌, ◌==◌, Bool, true, false, cond, List, ◌∷◌, get_or, set, length, replicate, refl, sym, ap, ap₂, subst, ◌∙◌, arith, eqb-true, eq-eqb, inl, inr, w64}
use Rattle.std.specs.Prelude.{bit_or}
use Rattle.std.specs.Int.{bit_at}
use Rattle.std.proofs.lemmas.Bool.{cases_lt, cases_eq}
use Rattle.std.proofs.lemmas.Nat.{or_lt}
use Rattle.std.proofs.lemmas.Nat.Bits.{bit_at_lowest, bit_at-suc, bit_at-lt, bit_at-zero, same_from_bits_below, bit_at_set_same, bit_at_set_other}
use Rattle.std.proofs.lemmas.List.{get_or_past, length-set, get_or-set_same, get_or-set_other}
use Rattle.std.proofs.Math.Nat.{pow-suc}
use Rattle.std.specs.Bool.{beq}
use Rattle.std.specs.Cmp.{booleans_Decides}
use Rattle.std.specs.Cmp.Lexicographic.{pointwise}
use Rattle.std.proofs.lemmas.Slice.Eq.{slice_eq-Decides}
use Rattle.std.proofs.lemmas.Bool.Decides.{same_from_decides}
use Rattle.std.specs.Prelude.{nat_eq}
use Rattle.model_sta.specs.Tabled.{tabulate}
use Rattle.model_sta.proofs.Tabled.{tabulate_length, tabulate_at, tabulated}
use Rattle.sta_classes.specs.Bits.{bits_of, word_of, words_of}

one_below : (n w : ℕ) (b : Bool) → w < 2 ^ n → cond b 1 0 + 2 * w < 2 ^ suc n
one_below n w true h = omega (arith, h, pow-suc 2 n)
one_below n w false h = omega (arith, h, pow-suc 2 n)

one_odd : (b : Bool) (w : ℕ) → (cond b 1 0 + 2 * w) % 2 ≡ cond b 1 0
one_odd true w = omega arith
one_odd false w = omega arith

one_half : (b : Bool) (w : ℕ) → (cond b 1 0 + 2 * w) / 2 ≡ w
one_half true w = omega arith
one_half false w = omega arith

word_below : (n : ℕ) (f : ℕ → Bool) → word_of n f < 2 ^ n
unfolding word_of
word_below zero f = omega arith
word_below (suc n) f = one_below n (word_of n (λ i. f (suc i))) (f 0) (word_below n (λ i. f (suc i)))

word_bit : (n : ℕ) (f : ℕ → Bool) (i : ℕ) → i < n → bit_at (word_of n f) i ≡ cond (f i) 1 0
unfolding word_of
word_bit zero f i low = absurd (omega arith)
word_bit (suc n) f zero low = bit_at_lowest (cond (f 0) 1 0 + 2 * word_of n (λ i. f (suc i))) ∙ one_odd (f 0) (word_of n (λ i. f (suc i)))
word_bit (suc n) f (suc i) low =
    bit_at-suc (cond (f 0) 1 0 + 2 * word_of n (λ j. f (suc j))) i ∙ ap (λ w. bit_at w i) (one_half (f 0) (word_of n (λ j. f (suc j)))) ∙ word_bit n (λ j. f (suc j)) i (omega arith)

-- so many words, with no bits from number n on
pub record AreTidy (n : ℕ) (words : List ℕ) : Type 0 where
  pub many : length words ≡ suc (n / 64)
  pub low : (k : ℕ) → get_or words k 0 < 2 ^ 64
  pub clear : (i : ℕ) → n ≤ i → bit_at (get_or words (i / 64) 0) (i % 64) ≡ 0

truth_bit : (b : ℕ) → b < 2 → cond (b == 1) 1 0 ≡ b
truth_bit zero low = refl
truth_bit (suc zero) low = refl
truth_bit (suc (suc b)) low = absurd (omega arith)

pub bits_length : (n : ℕ) (words : List ℕ) → length (bits_of n words) ≡ n
bits_length n words = tabulate_length n (λ i. bit_at (get_or words (i / 64) 0) (i % 64) == 1)

pub bits_at : (n : ℕ) (words : List ℕ) (i : ℕ) → i < n → get_or (bits_of n words) i false ≡ (bit_at (get_or words (i / 64) 0) (i % 64) == 1)
bits_at n words i low = tabulate_at n (λ j. bit_at (get_or words (j / 64) 0) (j % 64) == 1) i false low

-- words are those of their bits where they are tidy
pub words_are : (n : ℕ) (words : List ℕ) → AreTidy n words → words ≡ words_of (bits_of n words)
words_are n words tidy =
    tabulated words (suc (length (bits_of n words) / 64)) (λ k. word_of 64 (λ i. get_or (bits_of n words) (64 * k + i) false)) 0 (tidy.many ∙ ap (λ m. suc (m / 64)) (sym (bits_length n words)))
    (λ k low. same_from_bits_below 64 (get_or words k 0) (word_of 64 (λ i. get_or (bits_of n words) (64 * k + i) false)) (tidy.low k) (word_below 64 (λ i. get_or (bits_of n words) (64 * k + i) false))
    (λ i small. one k i small ∙ sym (word_bit 64 (λ j. get_or (bits_of n words) (64 * k + j) false) i small)))
  where
    one : (k i : ℕ) → i < 64 → bit_at (get_or words k 0) i ≡ cond (get_or (bits_of n words) (64 * k + i) false) 1 0
    one k i small =
        let word : (64 * k + i) / 64 ≡ k = omega arith in
        let bit : (64 * k + i) % 64 ≡ i = omega arith in
        let at : bit_at (get_or words ((64 * k + i) / 64) 0) ((64 * k + i) % 64) ≡ bit_at (get_or words k 0) i = ap₂ (λ w b. bit_at (get_or words w 0) b) word bit in
        elim (cases_lt (64 * k + i) n) [
          | inl below ↦
              sym (ap (λ b. cond b 1 0) (bits_at n words (64 * k + i) below) ∙ truth_bit (bit_at (get_or words ((64 * k + i) / 64) 0) ((64 * k + i) % 64)) (bit_at-lt (get_or words ((64 * k + i) / 64) 0) ((64 * k + i) % 64)) ∙ at)
          | inr above ↦ sym at ∙ tidy.clear (64 * k + i) above ∙ sym (ap (λ b. cond b 1 0) (get_or_past (bits_of n words) (64 * k + i) false (omega (arith, bits_length n words))))
        ]

-- and the other way round
pub tidy_of : (n : ℕ) (words : List ℕ) → words ≡ words_of (bits_of n words) → AreTidy n words
tidy_of n words e = record {
  many = ap length e ∙ tabulate_length (suc (length (bits_of n words) / 64)) (λ k. word_of 64 (λ i. get_or (bits_of n words) (64 * k + i) false)) ∙ ap (λ m. suc (m / 64)) (bits_length n words);
  low = λ k. subst (λ ws. get_or ws k 0 < 2 ^ 64) (sym e) (below k);
  clear = λ i above. elim (cases_lt (i / 64) (suc (length (bits_of n words) / 64))) [
    | inl inside ↦
        ap (λ w. bit_at w (i % 64)) (ap (λ ws. get_or ws (i / 64) 0) e ∙ tabulate_at (suc (length (bits_of n words) / 64)) (λ k. word_of 64 (λ j. get_or (bits_of n words) (64 * k + j) false)) (i / 64) 0 inside)
        ∙ word_bit 64 (λ j. get_or (bits_of n words) (64 * (i / 64) + j) false) (i % 64) (omega arith)
        ∙ ap (λ b. cond b 1 0) (get_or_past (bits_of n words) (64 * (i / 64) + i % 64) false (omega (arith, bits_length n words)))
    | inr outside ↦
        ap (λ w. bit_at w (i % 64)) (ap (λ ws. get_or ws (i / 64) 0) e ∙ get_or_past (words_of (bits_of n words)) (i / 64) 0 (omega (arith, tabulate_length (suc (length (bits_of n words) / 64)) (λ k. word_of 64 (λ j. get_or (bits_of n words) (64 * k + j) false)))))
        ∙ bit_at-zero (i % 64)
  ];
}
  where
    below : (k : ℕ) → get_or (words_of (bits_of n words)) k 0 < 2 ^ 64
    below k = elim (cases_lt k (suc (length (bits_of n words) / 64))) [
      | inl inside ↦ subst (λ w. w < 2 ^ 64) (sym (tabulate_at (suc (length (bits_of n words) / 64)) (λ j. word_of 64 (λ i. get_or (bits_of n words) (64 * j + i) false)) k 0 inside)) (word_below 64 (λ i. get_or (bits_of n words) (64 * k + i) false))
      | inr outside ↦ subst (λ w. w < 2 ^ 64) (sym (get_or_past (words_of (bits_of n words)) k 0 (omega (arith, tabulate_length (suc (length (bits_of n words) / 64)) (λ j. word_of 64 (λ i. get_or (bits_of n words) (64 * j + i) false)))))) (omega arith)
    ]

replicate_at : (n i : ℕ) → ◌≡◌ {A = ℕ} (get_or (replicate n 0) i 0) 0
replicate_at zero i = refl
replicate_at (suc n) zero = refl
replicate_at (suc n) (suc i) = replicate_at n i

none_set : (n : ℕ) (f : ℕ → Bool) → ((i : ℕ) → f i ≡ false) → tabulate n f ≡ replicate n false
none_set zero f h = refl
none_set (suc n) f h = ap₂ (λ x xs. x ∷ xs) (h 0) (none_set n (λ i. f (suc i)) (λ i. h (suc i)))

clear_bit : (n i : ℕ) → bit_at (get_or (replicate n 0) (i / 64) 0) (i % 64) ≡ 0
clear_bit n i = ap (λ w. bit_at w (i % 64)) (replicate_at n (i / 64)) ∙ bit_at-zero (i % 64)

-- words that are all 0 have no bits
pub no_bits : (n m : ℕ) → bits_of n (replicate m 0) ≡ replicate n false
no_bits n m = none_set n (λ i. bit_at (get_or (replicate m 0) (i / 64) 0) (i % 64) == 1) (λ i. ap (λ b. b == 1) (clear_bit m i))

replicate_length : (n : ℕ) → length {A = ℕ} (replicate n 0) ≡ n
replicate_length zero = refl
replicate_length (suc n) = ap suc (replicate_length n)

pub no_words : (n m : ℕ) → m ≡ n / 64 + 1 → replicate m 0 ≡ words_of (bits_of n (replicate m 0))
no_words n m e = words_are n (replicate m 0) (record {
  many = omega (arith, replicate_length m, e);
  low = λ k. subst (λ w. w < 2 ^ 64) (sym (replicate_at m k)) (omega arith);
  clear = λ i above. clear_bit m i;
})

module _ (n : ℕ) (words : List ℕ) (place : ℕ) (tidy : AreTidy n words) (low : place < n) where
  abbrev word : ℕ
  word = bit_or (get_or words (place / 64) 0) (1 * 2 ^ (place % 64) % 2 ^ 64)

  inside : place / 64 < length words
  inside = omega (arith, tidy.many, low)

  bit_same : (i : ℕ) → i ≡ place → bit_at (get_or (set words (place / 64) word) (i / 64) 0) (i % 64) ≡ 1
  bit_same i e =
      ap (λ j. bit_at (get_or (set words (place / 64) word) (j / 64) 0) (j % 64)) e ∙ ap (λ w. bit_at w (place % 64)) (get_or-set_same words (place / 64) word 0 inside)
      ∙ bit_at_set_same w64 (get_or words (place / 64) 0) (place % 64) (omega arith)

  bit_other : (i : ℕ) → ¬ (i ≡ place) → bit_at (get_or (set words (place / 64) word) (i / 64) 0) (i % 64) ≡ bit_at (get_or words (i / 64) 0) (i % 64)
  bit_other i other = elim (cases_eq (i / 64) (place / 64)) [
    | inl same ↦
        ap (λ k. bit_at (get_or (set words (place / 64) word) k 0) (i % 64)) same ∙ ap (λ w. bit_at w (i % 64)) (get_or-set_same words (place / 64) word 0 inside)
        ∙ bit_at_set_other w64 (get_or words (place / 64) 0) (place % 64) (omega arith) (i % 64) (λ e. other (omega (arith, e, same))) ∙ ap (λ k. bit_at (get_or words k 0) (i % 64)) (sym same)
    | inr apart ↦ ap (λ w. bit_at w (i % 64)) (get_or-set_other words (place / 64) (i / 64) word 0 apart)
  ]

  -- one more bit
  pub bit_put : bits_of n (set words (place / 64) word) ≡ set (bits_of n words) place true
  bit_put = sym (tabulated (set (bits_of n words) place true) n (λ i. bit_at (get_or (set words (place / 64) word) (i / 64) 0) (i % 64) == 1) false (length-set (bits_of n words) place true ∙ bits_length n words) (λ i small. elim (cases_eq i place) [
    | inl same ↦
        ap (λ j. get_or (set (bits_of n words) place true) j false) same ∙ get_or-set_same (bits_of n words) place true false (omega (arith, bits_length n words, low)) ∙ sym (ap (λ b. b == 1) (bit_same i same))
    | inr other ↦ get_or-set_other (bits_of n words) place i true false other ∙ bits_at n words i small ∙ sym (ap (λ b. b == 1) (bit_other i other))
  ]))

  pub words_put : set words (place / 64) word ≡ words_of (bits_of n (set words (place / 64) word))
  words_put = words_are n (set words (place / 64) word) (record {
    many = length-set words (place / 64) word ∙ tidy.many;
    low = λ k. elim (cases_eq k (place / 64)) [
      | inl same ↦
          subst (λ w. w < 2 ^ 64) (sym (ap (λ j. get_or (set words (place / 64) word) j 0) same ∙ get_or-set_same words (place / 64) word 0 inside))
          (or_lt 64 (get_or words (place / 64) 0) (1 * 2 ^ (place % 64) % 2 ^ 64) (tidy.low (place / 64)) (omega arith))
      | inr apart ↦ subst (λ w. w < 2 ^ 64) (sym (get_or-set_other words (place / 64) k word 0 apart)) (tidy.low k)
    ];
    clear = λ i above. bit_other i (λ e. (omega (arith, e, above, low))) ∙ tidy.clear i above;
  })

-- sets are one where their words are, and as many numbers
pub rows_same : (n m : ℕ) (v w : List ℕ) → n ≡ m → v ≡ w → bits_of n v ≡ bits_of m w
rows_same n m v w d e = ap₂ bits_of d e

pub words_same : (n m : ℕ) (v w : List ℕ) → v ≡ words_of (bits_of n v) → w ≡ words_of (bits_of m w) → bits_of n v ≡ bits_of m w → (n ≡ m) × (v ≡ w)
words_same n m v w a b e = (sym (bits_length n v) ∙ ap length e ∙ bits_length m w, a ∙ ap words_of e ∙ sym b)

-- one test tells whether rows are one
pub rows_decide : (p q : List Bool) → (pointwise beq p q ≡ true → p ≡ q) × (p ≡ q → pointwise beq p q ≡ true)
rows_decide p q = slice_eq-Decides booleans_Decides p q (pointwise beq p q) refl

not_true : (b : Bool) → (b ≡ true → ⊥) → false ≡ b
not_true true h = absurd (h refl)
not_true false h = refl

-- rows of other lengths differ
pub rows_apart : (n m : ℕ) (v w : List ℕ) (p q : List Bool) → ¬ (n ≡ m) → bits_of n v ≡ p → bits_of m w ≡ q → false ≡ pointwise beq p q
rows_apart n m v w p q other a b =
    not_true (pointwise beq p q) (λ h. other (sym (bits_length n v) ∙ ap length (a ∙ (rows_decide p q).0 h ∙ sym b) ∙ bits_length m w))

-- rows of one length are one where their words are
pub rows_compared : (n m : ℕ) (v w : List ℕ) (p q : List Bool) (r : Bool) → n ≡ m → r ≡ pointwise nat_eq v w → v ≡ words_of (bits_of n v) → w ≡ words_of (bits_of m w) → bits_of n v ≡ p → bits_of m w ≡ q → r ≡ pointwise beq p q
rows_compared n m v w p q r same e tidy_v tidy_w a b =
    let d = slice_eq-Decides (λ x y. (eqb-true x y, eq-eqb x y)) v w r e in
    same_from_decides r (pointwise beq p q) (λ h. sym a ∙ rows_same n m v w same (d.0 h) ∙ b, λ h. d.1 ((words_same n m v w tidy_v tidy_w (a ∙ h ∙ sym b)).1)) (rows_decide p q)
