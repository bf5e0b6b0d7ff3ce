-- What rules over blocks demand.
use Rattle.std.specs.Prelude.{ℕ, ◌≡◌, ◌<◌, ◌==◌, ◌&&◌, ◌↔◌, Bool, false, cond, nat_lt, List, [], get_or, length, Contains}
use Rattle.sta_classes.specs.Plain.{PlainTable, kind_count}

-- all classes are of one kind at the place
abbrev pub is_free : {A V : Type 0} → PlainTable A V → ℕ → ℕ → Bool
is_free t c j = nat_lt j (get_or t.machine.ranks c 0) && (kind_count t c j == 1)

abbrev pub free_in : List Bool → ℕ → Bool
free_in free j = get_or free j false

-- for the first n places of the constructor, whether they are free
pub record AreFreePlaces {A V : Type 0} (t : PlainTable A V) (c n : ℕ) (free : List Bool) : Type 0 where
  pub many : length free ≡ n
  pub each : (j : ℕ) → j < n → free_in free j ≡ is_free t c j

-- for the first n places the first block alone where they are free, and else all
pub record AreChoices (free : ℕ → Bool) (count n : ℕ) (choices : List (List ℕ)) : Type 0 where
  pub many : length choices ≡ n
  pub each : (j : ℕ) → j < n → (k : ℕ) → Contains (get_or choices j []) k ↔ (k < cond (free j) 1 count)
