-- The numbers that pass a test.
use Rattle.std.proofs.Common.{ℕ, ◌+◌, ◌≡◌, ◌<◌, inl, inr, Bool, true, false, ◌==◌, List, [], ◌∷◌, ◌++◌, get_or, length, All, Contains, refl, sym, ap, subst, ◌∙◌, arith, eqb-true, eq-eqb}
use Rattle.std.specs.List.{AllPairs}
use Rattle.std.proofs.lemmas.Bool.{cases_lt}
use Rattle.std.proofs.lemmas.List.Elements.{Contains-push_cases}
use Rattle.std.proofs.lemmas.List.Quantifiers.{all_pairs_push}
use Rattle.model_sta.proofs.Reached.{same_default}
use Rattle.sta_theory.specs.Minimal.{is_among}
use Rattle.sta_theory.proofs.Lists.{none_in, any_member, any_true, bool_same, in_left, in_right}
use Rattle.sta_ops.proofs.EachRule.{in_all}

-- of the first n numbers exactly those that pass
pub record AreFinals (test : ℕ → Bool) (n : ℕ) (finals : List ℕ) : Type 0 where
  pub low : (i : ℕ) → Contains finals i → i < n
  pub ascending : AllPairs (λ i j. i < j) finals
  pub passed : (i : ℕ) → Contains finals i → test i ≡ true
  pub all : (i : ℕ) → i < n → test i ≡ true → Contains finals i

module _ (test : ℕ → Bool) where
  pub no_finals : (finals : List ℕ) → finals ≡ [] → AreFinals test 0 finals
  no_finals finals is = record { low = λ i at. absurd (none_in i (subst (λ l. Contains l i) is at)); ascending = λ i j d before low. absurd (omega (arith, low, ap length is)); passed = λ i at. absurd (none_in i (subst (λ l. Contains l i) is at)); all = λ i low. absurd (omega arith) }

  module _ (n : ℕ) (finals : List ℕ) (are : AreFinals test n finals) where
    pub not_final : test n ≡ false → AreFinals test (n + 1) finals
    not_final fails = record {
      low = λ i at. omega (arith, are.low i at);
      ascending = are.ascending;
      passed = are.passed;
      all = λ i low pass. elim (cases_lt i n) [
        | inl before ↦ are.all i before pass
        | inr after ↦ (let last : i ≡ n = omega (arith, low, after) in let other : test i ≡ false = ap test last ∙ fails in absurd (cc (pass, other)))
      ];
    }

    pub new_final : test n ≡ true → (more : List ℕ) → more ≡ finals ++ n ∷ [] → AreFinals test (n + 1) more
    new_final passes more is = subst (AreFinals test (n + 1)) (sym is) (record {
      low = λ i at. elim (Contains-push_cases finals n i at) [ inl old ↦ omega (arith, are.low i old) | inr e ↦ omega (arith, e) ];
      ascending = all_pairs_push (λ i j. i < j) finals n are.ascending (λ k d low. are.low (get_or finals k d) (k, low, same_default finals k (get_or finals k d) d low));
      passed = λ i at. elim (Contains-push_cases finals n i at) [ inl old ↦ are.passed i old | inr e ↦ ap test (sym e) ∙ passes ];
      all = λ i low pass. elim (cases_lt i n) [
        | inl before ↦ in_left finals (n ∷ []) i (are.all i before pass)
        | inr after ↦ in_right finals (n ∷ []) i (let last : n ≡ i = omega (arith, low, after) in (0, omega arith, last))
      ];
    })

    pub finals_low : All (λ i. i < n) finals
    finals_low = in_all (λ i. i < n) finals are.low

    pub finals_are : (i : ℕ) → i < n → is_among finals i ≡ test i
    finals_are i low =
        bool_same (is_among finals i) (test i)
        (λ h. (let (k, at, same) = any_member (λ k. i == k) finals h in ap test (eqb-true i k same) ∙ are.passed k at))
        (λ pass. any_true (λ k. i == k) finals i (are.all i low pass) (eq-eqb i i refl))
