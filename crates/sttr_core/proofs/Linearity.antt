-- What is linear, by how often children are used.
use Rattle.std.proofs.Common.{◌≡◌, ℕ, zero, suc, ◌+◌, ◌≤◌, ◌<◌, cond, ◌==◌, true, false, arith}
use Rattle.model_sttr.specs.Terms.{Term, on, build, Parts, no_parts, part, IsLinear, AreLinear}
use Rattle.sttr_core.specs.Uses.{use_count, uses_in}
use Rattle.sttr_core.specs.Linear.{UsesTwice}
use Rattle.sttr_core.proofs.Uses.{counted, counted_in, used, used_in}

at_most_one : (i j : ℕ) → cond (i == j) 1 0 ≤ 1
at_most_one i j = elim (i == j) as (λ b. cond b 1 0 ≤ 1) [ true ↦ omega arith | false ↦ omega arith ]

few_of_both : (a b : ℕ) → a ≤ 1 → b ≤ 1 → (0 < a → 0 < b → ⊥) → a + b ≤ 1
few_of_both zero b h k apart = omega arith
few_of_both (suc a) zero h k apart = omega arith
few_of_both (suc a) (suc b) h k apart = absurd (apart (omega arith) (omega arith))

at_most : (a : ℕ) → ¬ (1 < a) → a ≤ 1
at_most zero h = omega arith
at_most (suc zero) h = omega arith
at_most (suc (suc a)) h = absurd (h (omega arith))

module _ {H M : Type 0} where
  mutual
    -- a term that uses no child twice is linear
    pub linear : (p : Term H M) → ((j : ℕ) → use_count j p ≤ 1) → IsLinear p
    linear (on h i) few = tt
    linear (build c m ps) few = are_linear ps few

    pub are_linear : (ps : Parts H M) → ((j : ℕ) → uses_in j ps ≤ 1) → AreLinear ps
    are_linear no_parts few = tt
    are_linear (part p ps) few = (
      linear p (λ j. omega (arith, few j)),
      are_linear ps (λ j. omega (arith, few j)),
      λ j u v. omega (arith, few j, counted j p u, counted_in j ps v),
    )

  mutual
    -- and a linear one uses none twice
    pub uses_few : (p : Term H M) → IsLinear p → (j : ℕ) → use_count j p ≤ 1
    uses_few (on h i) lin j = at_most_one i j
    uses_few (build c m ps) lin j = few_in ps lin j

    pub few_in : (ps : Parts H M) → AreLinear ps → (j : ℕ) → uses_in j ps ≤ 1
    few_in no_parts lin j = omega arith
    few_in (part p ps) lin j =
        few_of_both (use_count j p) (uses_in j ps) (uses_few p lin.0 j) (few_in ps lin.1 j) (λ a b. lin.2 j (used j p a) (used_in j ps b))

  -- a term is linear where the test on it fails
  pub linear_if : (p : Term H M) → (UsesTwice p → false ≡ true) → IsLinear p
  linear_if p h = linear p (λ j. at_most (use_count j p) (λ more. let e : false ≡ true = h (j, more) in cc))
