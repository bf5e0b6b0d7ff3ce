-- The class that has what is asked, with the smallest least tree.
use Rattle.std.specs.Prelude.{◌≡◌, ℕ, ◌≤◌, ◌<◌, Bool, true, false, nat_lt, List, [], get_or, length, Option, Some, None}
use Rattle.model_sta.specs.Sets.{Row}

-- whether a class has a smaller count than the best one
abbrev pub is_better : List ℕ → ℕ → Option ℕ → Bool
is_better counts class None = true
is_better counts class (Some best) = nat_lt (get_or counts class 0) (get_or counts best 0)

-- over the sets of the classes and their counts
module _ (rows : List Row) (counts : List ℕ) (test : Row → Bool) where
  -- whether the set of the class with this number has what is asked
  abbrev pub has_class : ℕ → Bool
  has_class k = test (get_or rows k [])

  -- none of the first so many classes has it
  abbrev pub HasNoneBelow : ℕ → Type 0
  HasNoneBelow count = (k : ℕ) → k < count → has_class k ≡ false

  -- a class that has it, and none of the first so many that has it has a smaller count
  pub record IsLeastBelow (count class : ℕ) : Type 0 where
    pub low : class < count
    pub member : has_class class ≡ true
    pub least : (k : ℕ) → k < count → has_class k ≡ true → get_or counts class 0 ≤ get_or counts k 0

  abbrev pub HasNoClass : Type 0
  HasNoClass = HasNoneBelow (length rows)

  abbrev pub IsLeastClass : ℕ → Type 0
  IsLeastClass = IsLeastBelow (length rows)

  -- the best of the first so many classes, if one has it
  abbrev pub IsBestBelow : ℕ → Option ℕ → Type 0
  IsBestBelow count None = HasNoneBelow count
  IsBestBelow count (Some class) = IsLeastBelow count class
