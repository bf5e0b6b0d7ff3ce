-- The blocks of a head, and what rules over them demand.
use Rattle.std.proofs.Common.{ℕ, zero, suc, ◌≡◌, ◌<◌, ◌==◌, ◌&&◌, inl, inr, Bool, true, false, cond, nat_lt, List, [], ◌∷◌, get_or, length, Contains, refl, sym, ap, ap₂, subst, ◌∙◌, arith}
use Rattle.std.proofs.lemmas.Bool.{cases_lt}
use Rattle.std.proofs.lemmas.Bool.Decides.{nat_tests}
use Rattle.std.proofs.lemmas.List.{get_or_past}
use Rattle.model_sta.specs.Sets.{Each}
use Rattle.sta_classes.specs.Plain.{PlainTable, kind_count}
use Rattle.sta_theory.specs.Built.{keys}
use Rattle.sta_theory.proofs.Lists.{none_in}
use Rattle.sta_ops.proofs.EachRule.{only}
use Rattle.sta_min.specs.Demands.{is_free, free_in, AreFreePlaces}

module _ (n : ℕ) where
  one_for : (b : Bool) (k : ℕ) → k < n → (i : ℕ) × (i < n) × (i < cond b 1 n) × (cond b [] (i ∷ []) ≡ cond b [] (k ∷ []))
  one_for true k low = (0, omega arith, omega arith, refl)
  one_for false k low = (k, low, low, refl)

  before_those : (free : ℕ → Bool) (m i : ℕ) (js : List ℕ) → i < cond (free 0) 1 n → ((j : ℕ) → j < m → get_or js j 0 < cond (free (suc j)) 1 n) → (j : ℕ) → j < suc m → get_or (i ∷ js) j 0 < cond (free j) 1 n
  before_those free m i js may those zero l = may
  before_those free m i js may those (suc j) l = those j (omega arith)

  -- with the first block at each free place, the demands are the same
  pub choose : (free : ℕ → Bool) (ks : List ℕ) → Each (λ k. k < n) ks
      → (js : List ℕ) × Each (λ k. k < n) js × (length js ≡ length ks) × ((j : ℕ) → j < length ks → get_or js j 0 < cond (free j) 1 n) × (keys free js ≡ keys free ks)
  choose free [] low = ([], tt, refl, λ j l. absurd (omega arith), refl)
  choose free (k ∷ ks) low =
      let (i, i_low, may, key) = one_for (free 0) k low.0 in
      let (js, js_low, long, those, same) = choose (λ j. free (suc j)) ks low.1 in
      (i ∷ js, (i_low, js_low), ap suc long, before_those free (length ks) i js may those, ap₂ (λ x xs. x ∷ xs) key same)

  low_in : (b : Bool) (k : ℕ) → k < cond b 1 n → (b ≡ true → 0 < n) → k < n
  low_in true k may some = omega (arith, may, some refl)
  low_in false k may some = may

  -- chosen blocks are blocks, if there is one where there is a free place
  pub chosen_low : (free : ℕ → Bool) (ks : List ℕ) → ((j : ℕ) → j < length ks → get_or ks j 0 < cond (free j) 1 n) → ((j : ℕ) → j < length ks → free j ≡ true → 0 < n) → Each (λ k. k < n) ks
  chosen_low free [] may some = tt
  chosen_low free (k ∷ ks) may some = (low_in (free 0) k (may 0 (omega arith)) (some 0 (omega arith)), chosen_low (λ j. free (suc j)) ks (λ j l. may (suc j) (omega arith)) (λ j l. some (suc j) (omega arith)))

  in_key : (b : Bool) (k s : ℕ) → k < n → Contains (cond b [] (k ∷ [])) s → s < n
  in_key true k s low at = absurd (none_in s at)
  in_key false k s low at = subst (λ x. x < n) (only k s at) low

  -- what is demanded is of these blocks
  pub keys_own : (free : ℕ → Bool) (ks : List ℕ) → Each (λ k. k < n) ks → (d : List ℕ) → Contains (keys free ks) d → (s : ℕ) → Contains d s → s < n
  keys_own free [] low d at s here = absurd (none_in d at)
  keys_own free (k ∷ ks) low d (zero, l, is) s here = in_key (free 0) k s low.0 (subst (λ e. Contains e s) (sym is) here)
  keys_own free (k ∷ ks) low d (suc i, l, is) s here = keys_own (λ j. free (suc j)) ks low.1 d (i, omega arith, is) s here

pub keys_long : (free : ℕ → Bool) (ks : List ℕ) → length (keys free ks) ≡ length ks
keys_long free [] = refl
keys_long free (k ∷ ks) = ap suc (keys_long (λ j. free (suc j)) ks)

-- nothing at a free place
pub key_free : (free : ℕ → Bool) (ks : List ℕ) (j : ℕ) → free j ≡ true → get_or (keys free ks) j [] ≡ []
key_free free [] j e = refl
key_free free (k ∷ ks) zero e = ap (λ b. cond b [] (k ∷ [])) e
key_free free (k ∷ ks) (suc j) e = key_free (λ i. free (suc i)) ks j e

pub keys_same : (f g : ℕ → Bool) → ((j : ℕ) → f j ≡ g j) → (ks : List ℕ) → keys f ks ≡ keys g ks
keys_same f g h [] = refl
keys_same f g h (k ∷ ks) = ap₂ (λ x xs. x ∷ xs) (ap (λ b. cond b [] (k ∷ [])) (h 0)) (keys_same (λ j. f (suc j)) (λ j. g (suc j)) (λ j. h (suc j)) ks)

past : (n m : ℕ) (b : Bool) → m < suc n → (nat_lt n m && b) ≡ false
past n m b low = ap (λ x. x && b) (let e : nat_lt n m ≡ false = grind (arith, nat_tests) in e)

-- the free places are known as a list
pub free_known : {A V : Type 0} (t : PlainTable A V) (c : ℕ) (free : List Bool) → AreFreePlaces t c (get_or t.machine.ranks c 0) free → (j : ℕ) → free_in free j ≡ is_free t c j
free_known t c free are j = elim (cases_lt j (get_or t.machine.ranks c 0)) [
  | inl low ↦ are.each j low
  | inr high ↦ get_or_past free j false (omega (arith, high, are.many)) ∙ sym (past j (get_or t.machine.ranks c 0) (kind_count t c j == 1) (omega (arith, high)))
]
