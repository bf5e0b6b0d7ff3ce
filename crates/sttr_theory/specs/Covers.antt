-- Lists that are as good as others, though what doesn't count may be left out.
use Rattle.std.specs.Prelude.{◌≡◌, ◌⊎◌, Bool, false, List, Contains}

-- each y is R to one of the others, and each of the others has such a y, or doesn't count
pub record Covers {Y Z : Type 0} (R : Y → Z → Type 0) (Out : Z → Type 0) (ys : List Y) (zs : List Z) : Type 0 where
  pub only : (y : Y) → Contains ys y → (z : Z) × Contains zs z × R y z
  pub all : (z : Z) → Contains zs z → ((y : Y) × Contains ys y × R y z) ⊎ Out z

-- the guard holds of no label of D
abbrev pub Never : {L : Type 0} → (L → Type 0) → (L → Bool) → Type 0
Never {L} D guard = (l : L) → D l → guard l ≡ false
