-- What is so of a sum while its terms are gathered, each time by a coefficient times a form.
use Rattle.std.specs.Prelude.{◌≡◌, ℕ, suc, ℤ, ◌*◌, ◌<◌, ◌≤◌, ◌^◌, ◌⊎◌, unsigned_abs, List, [], ◌∷◌, length}
use Rattle.model_tree.specs.Limits.{most_fields, greatest_divisor}
use Rattle.model_form.specs.Form.{Remainders, no_remainders, remainder}
use Rattle.model_form.specs.Sums.{Sum}
use Rattle.model_form.specs.Simpler.{reduced}
use Rattle.model_form.specs.Ranges.{IsApart, AreApart}
use Rattle.lin_form.specs.Whole.{AreInner}

-- m products of two coefficients are no greater
abbrev pub IsWithin : ℕ → ℤ → Type 0
IsWithin m z = unsigned_abs z ≤ m * 2 ^ 62

abbrev pub AreTotals : ℕ → List ℤ → Type 0
AreTotals m [] = Unit {0}
AreTotals m (c ∷ cs) = IsWithin m c × AreTotals m cs

abbrev pub AreLikes : ℕ → Remainders → Type 0
AreLikes m no_remainders = Unit {0}
AreLikes m (remainder a f k rs) = IsWithin m a × (0 < k) × (k ≤ greatest_divisor) × AreLikes m rs

-- a sum of at most m forms, each times a coefficient
pub record IsGathered (m : ℕ) (s : Sum) : Type 0 where
  pub eight : length s.totals ≡ most_fields
  pub totals : AreTotals m s.totals
  pub likes : AreLikes m s.terms
  pub apart : AreApart s.terms
  pub inner : AreInner s.terms

-- while one more form is added: the fields before this one may have had their term
abbrev pub TotalsBefore : ℕ → ℕ → ℕ → List ℤ → Type 0
TotalsBefore m next i [] = Unit {0}
TotalsBefore m next i (c ∷ cs) = (IsWithin m c ⊎ (IsWithin (suc m) c × (i < next))) × TotalsBefore m next (suc i) cs

-- while one more form is added: what is like none of the further terms may have had its term
abbrev pub LikesBefore : ℕ → Remainders → Remainders → Type 0
LikesBefore m further no_remainders = Unit {0}
LikesBefore m further (remainder a f k rs) = (IsWithin m a ⊎ (IsWithin (suc m) a × IsApart f k further)) × (0 < k) × (k ≤ greatest_divisor) × LikesBefore m further rs

-- a sum whose constant and coefficients are remainders by m
pub record IsReduced (m : ℕ) (s : Sum) : Type 0 where
  pub gathered : IsGathered 1 s
  pub constant : unsigned_abs s.constant ≤ greatest_divisor
  pub same : reduced m s ≡ s
