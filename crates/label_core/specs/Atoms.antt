-- Atoms up to their own equality.
use Rattle.std.specs.Prelude.{Bool, IsTrue, List, All}
use Rattle.std.specs.List.{list_any}

module _ {A : Type 0} (eq : A → A → Bool) where
  -- whether an equal atom is among these
  abbrev pub has_equal : List A → A → Bool
  has_equal atoms a = list_any (eq a) atoms

  -- each of the first has an equal one among the second
  abbrev pub EachHasEqual : List A → List A → Type 0
  EachHasEqual atoms more = All (λ a. IsTrue (has_equal more a)) atoms
