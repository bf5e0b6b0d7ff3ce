-- Formulas in which no atom is open.
use Rattle.std.proofs.Common.{◌≡◌, ◌<◌, Bool, Option, None, Some, IsSome, IfNone, ℕ, List, All, Vec, Box, Global, subst}
use Rattle.label_core.specs.declared.formula.Formula.{Formula}
use Rattle.label_core.specs.declared.formula.Formula.TheVariants.{And, Or, Not}
use Rattle.label_core.proofs.Formulas.{not_of, and_of, or_of, every_not, every_and, every_or}
use Rattle.label_split.specs.Known.{formula_known, known_at, settled, IsWithin}
use Rattle.label_split.proofs.Truths.{all_settled, some_settled, some_not}

-- a formula whose parts are settled
pub and_settled : (known : List (Option Bool)) (f : Formula ℕ) (v : Vec (Formula ℕ) Global) (items : List (Formula ℕ)) → f ≡ And v → items ≡ v.items → (r : Option ℕ) → IfNone r (All (λ g. IsSome (settled known g)) items) → IfNone r (IsSome (settled known f))
and_settled known f v items e is None h = subst (λ g. IsSome (formula_known (known_at known) g)) (and_of f v items e is) (all_settled (known_at known) items h)
and_settled known f v items e is (Some i) h = tt

pub or_settled : (known : List (Option Bool)) (f : Formula ℕ) (v : Vec (Formula ℕ) Global) (items : List (Formula ℕ)) → f ≡ Or v → items ≡ v.items → (r : Option ℕ) → IfNone r (All (λ g. IsSome (settled known g)) items) → IfNone r (IsSome (settled known f))
or_settled known f v items e is None h = subst (λ g. IsSome (formula_known (known_at known) g)) (or_of f v items e is) (some_settled (known_at known) items h)
or_settled known f v items e is (Some i) h = tt

pub not_settled : (known : List (Option Bool)) (f : Formula ℕ) (b : Box (Formula ℕ) Global) (g : Formula ℕ) → f ≡ Not b → g ≡ b.value → (r : Option ℕ) → IfNone r (IsSome (settled known g)) → IfNone r (IsSome (settled known f))
not_settled known f b g e is None h = subst (λ k. IsSome (formula_known (known_at known) k)) (not_of f b g e is) (some_not (settled known g) h)
not_settled known f b g e is (Some i) h = tt

pub and_within : (n : ℕ) (f : Formula ℕ) (v : Vec (Formula ℕ) Global) (items : List (Formula ℕ)) → f ≡ And v → items ≡ v.items → IsWithin n f → All (IsWithin n) items
and_within n f v items e is h = every_and (λ i. i < n) f v items e is h

pub or_within : (n : ℕ) (f : Formula ℕ) (v : Vec (Formula ℕ) Global) (items : List (Formula ℕ)) → f ≡ Or v → items ≡ v.items → IsWithin n f → All (IsWithin n) items
or_within n f v items e is h = every_or (λ i. i < n) f v items e is h

pub not_within : (n : ℕ) (f : Formula ℕ) (b : Box (Formula ℕ) Global) (g : Formula ℕ) → f ≡ Not b → g ≡ b.value → IsWithin n f → IsWithin n g
not_within n f b g e is h = every_not (λ i. i < n) f b g e is h
