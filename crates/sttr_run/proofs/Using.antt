-- Whether a term uses a child, by how often it does.
use Rattle.std.proofs.Common.{ℕ, zero, suc, ◌+◌, ◌≡◌, ◌==◌, ◌||◌, cond, min, nat_eq, Bool, true, false, refl, ap, ap₂, ◌∙◌, arith}
use Rattle.model_sttr.specs.Terms.{Term, on, build, Parts, no_parts, part, with_maps, parts_with_maps}
use Rattle.model_sttr.specs.Transducer.{Head}
use Rattle.sttr_core.specs.Uses.{use_count}
use Rattle.sttr_core.specs.Uses as core
use Rattle.sttr_theory.specs.Ways.{uses, uses_in}

abbrev some : ℕ → Bool
some zero = false
some (suc n) = true

some_or : (a b : ℕ) → some (a + b) ≡ (some a || some b)
some_or zero b = ap some (omega arith)
some_or (suc a) b = let e : suc a + b ≡ suc (a + b) = omega arith in ap some e

one_of : (n : ℕ) → nat_eq (min n 1) 1 ≡ some n
one_of zero = refl
one_of (suc n) = let e : min (suc n) 1 ≡ 1 = omega arith in ap (λ m. nat_eq m 1) e

some_if : (b : Bool) → some (cond b 1 0) ≡ b
some_if true = refl
some_if false = refl

module _ {M L : Type 0} (make : M → L → L) (j : ℕ) where
  mutual
    counted : (p : Term Head M) → some (use_count j p) ≡ uses j (with_maps make p)
    counted (on h i) = some_if (i == j)
    counted (build c m ps) = counted_in ps

    counted_in : (ps : Parts Head M) → some (core.uses_in j ps) ≡ uses_in j (parts_with_maps make ps)
    counted_in no_parts = refl
    counted_in (part p ps) = some_or (use_count j p) (core.uses_in j ps) ∙ ap₂ (λ a b. a || b) (counted p) (counted_in ps)

  pub used : (p : Term Head M) (n : ℕ) → n ≡ min (use_count j p) 1 → nat_eq n 1 ≡ uses j (with_maps make p)
  used p n e = ap (λ m. nat_eq m 1) e ∙ one_of (use_count j p) ∙ counted p
