-- Conditions without variables.
use Rattle.std.proofs.Common.{◌≡◌, ℕ, zero, suc, List, [], ◌∷◌, eqb, of_z, refl, ap, sym, ◌∙◌, subst, arith}
use Rattle.std.proofs.Math.IntN.{ℤ, pos, negsuc, ◌+ℤ◌, ◌*ℤ◌}
use Rattle.std.specs.Prelude.{◌≤ℤ◌, ◌<ℤ◌, ◌↔◌, IsTrue}
use Rattle.std.specs.Int.{w128}
use Rattle.std.proofs.lemmas.Int.{ints}
use Rattle.std.proofs.lemmas.Bool.Decides.{nat_tests}
use Rattle.math_cooper.specs.Line.{AtLeastZero, DividedBy, Divides, Meets}
use Rattle.math_cooper.specs.System.{Condition, Holds, value, dot}
use Rattle.cooper_solve.proofs.Skipped.{undivided}

dot_empty : (row : List ℤ) → dot row [] ≡ pos 0
unfolding dot
dot_empty [] = refl
dot_empty (a ∷ row) = refl

value_empty : (c : Condition) → value c [] ≡ c.constant
value_empty c = let e = dot_empty c.coefficients in omega (arith, ints)

pub met_at_least : (c : Condition) (k : ℤ) → c.kind ≡ AtLeastZero → c.constant ≡ k → Holds [] c ↔ (pos 0 ≤ℤ k)
met_at_least c k e f = (
  λ h. let m : pos 0 ≤ℤ value c [] = subst (λ x. Meets x (value c [])) e h in let v = value_empty c in omega (arith, ints),
  λ h. subst (λ x. Meets x (value c [])) (sym e) (let v = value_empty c in omega (arith, ints)),
)

left_over : (m : ℕ) (k q r : ℤ) → k ≡ (pos m *ℤ q) +ℤ r → pos 0 ≤ℤ r → r <ℤ pos m → Divides m k → (r ≡ pos 0 → ⊥) → ⊥
left_over m k q r e lo hi d n = undivided m k q r (pos 0) (pos 0) e (above r lo n) (omega (arith, ints)) (subst (Divides m) (more k) d)
  where
    more : (k : ℤ) → k ≡ k +ℤ pos 0
    more k = omega (arith, ints)

    above : (r : ℤ) → pos 0 ≤ℤ r → (r ≡ pos 0 → ⊥) → pos 0 <ℤ (r +ℤ pos 0)
    above (pos zero) lo n = absurd (n refl)
    above (pos (suc j)) lo n = omega (arith, ints)
    above (negsuc j) lo n = absurd (omega (arith, ints))

zero_of : (r : ℤ) → ((r ≡ pos 0 → ⊥) → ⊥) → pos 0 ≤ℤ r → r ≡ pos 0
zero_of (pos zero) f lo = refl
zero_of (pos (suc n)) f lo = absurd (f (λ e. omega (arith, ints)))
zero_of (negsuc n) f lo = absurd (omega (arith, ints))

pub met_divided : (c : Condition) (m : ℕ) (k q r : ℤ) → c.kind ≡ DividedBy m → c.constant ≡ k → k ≡ (pos m *ℤ q) +ℤ r → pos 0 ≤ℤ r → r <ℤ pos m → Holds [] c ↔ (r ≡ pos 0)
met_divided c m k q r e f g lo hi = (
  λ h. let d : Divides m (value c []) = subst (λ x. Meets x (value c [])) e h in zero_of r (left_over m k q r g lo hi (subst (Divides m) (value_empty c ∙ f) d)) lo,
  λ z. subst (λ x. Meets x (value c [])) (sym e) (record { times = q; is = value_empty c ∙ f ∙ g ∙ ap (λ s. (pos m *ℤ q) +ℤ s) z ∙ omega (arith, ints) }),
)

pub bits_zero : (r : ℤ) → pos 0 ≤ℤ r → IsTrue (eqb (of_z w128 r) 0) → r ≡ pos 0
bits_zero (pos n) h t = ap pos (grind (arith, nat_tests))
bits_zero (negsuc n) h t = absurd (omega (arith, ints))

pub zero_bits : (r : ℤ) → r ≡ pos 0 → IsTrue (eqb (of_z w128 r) 0)
zero_bits r e = subst (λ z. IsTrue (eqb (of_z w128 z) 0)) (sym e) refl
