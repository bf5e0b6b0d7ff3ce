-- How often terms use children, and what is linear.
use Rattle.std.proofs.Common.{◌≡◌, ◌==◌, ℕ, zero, suc, ◌+◌, ◌<◌, ◌⊎◌, inl, inr, cond, map, Vec, Global, ap, arith}
use Rattle.std.proofs.lemmas.Bool.Decides.{nat_tests}
use Rattle.model_sttr.specs.Terms.{Term, on, build, Parts, no_parts, part, Uses, UsesIn}
use Rattle.sttr_core.specs.Uses.{use_count, uses_in}
use Rattle.sttr_core.specs.Terms.{plain_term, plain_parts}
use Rattle.sttr_core.specs.declared.term.Term.{Term as Written}
use Rattle.sttr_core.specs.declared.term.Term.TheBlock.{hidden-the_row-Term-0}
use Rattle.sttr_core.proofs.Parts.{parts_of, parts_are}

module _ {M : Type 0} (j : ℕ) where
  pub uses_of_parts : (v : Vec (Written M) Global) → uses_in j (plain_parts (hidden-the_row-Term-0 M v)) ≡ uses_in j (parts_of (map plain_term v.items))
  uses_of_parts v = ap (uses_in j) (parts_are v)

pub counted_here : (i j : ℕ) → i ≡ j → ◌≡◌ {A = ℕ} (cond (i == j) 1 0) 1
counted_here i j e = grind (arith, nat_tests)

pub counted_apart : (i j : ℕ) → ¬ (i ≡ j) → ◌≡◌ {A = ℕ} (cond (i == j) 1 0) 0
counted_apart i j e = grind (arith, nat_tests)

pub here_if_counted : (i j : ℕ) → 0 < cond (i == j) 1 0 → i ≡ j
here_if_counted i j h = grind (arith, nat_tests)

pub either : (a b : ℕ) → 0 < a + b → (0 < a) ⊎ (0 < b)
either zero b h = inr (omega arith)
either (suc a) b h = inl (omega arith)

module _ {H M : Type 0} (j : ℕ) where
  mutual
    pub counted : (p : Term H M) → Uses j p → 0 < use_count j p
    counted (on h i) e = omega (arith, counted_here i j e)
    counted (build c m ps) u = counted_in ps u

    pub counted_in : (ps : Parts H M) → UsesIn j ps → 0 < uses_in j ps
    counted_in no_parts u = absurd u
    counted_in (part p ps) (inl u) = omega (arith, counted p u)
    counted_in (part p ps) (inr u) = omega (arith, counted_in ps u)

  mutual
    pub used : (p : Term H M) → 0 < use_count j p → Uses j p
    used (on h i) e = here_if_counted i j e
    used (build c m ps) e = used_in ps e

    pub used_in : (ps : Parts H M) → 0 < uses_in j ps → UsesIn j ps
    used_in no_parts e = absurd (omega arith)
    used_in (part p ps) e = elim (either (use_count j p) (uses_in j ps) e) as (λ _. UsesIn j (part p ps)) [ inl h ↦ inl (used p h) | inr h ↦ inr (used_in ps h) ]

pub ruleset on_uses = (uses_of_parts, counted_here, counted_apart)

pub ruleset on_bounds = (uses_of_parts, counted_apart)
