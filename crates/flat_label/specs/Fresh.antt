-- Texts that differ from given ones and from each other.
use Rattle.std.specs.Prelude.{◌≡◌, ◌≢◌, ◌<◌, ℕ, List, length, slice_index_or, Contains}

pub record AreFresh (count : ℕ) (given texts : List (List ℕ)) : Type 0 where
  pub many : length texts ≡ count
  pub apart : (i j : ℕ) (d : List ℕ) → i < j → j < length texts → slice_index_or texts i d ≢ slice_index_or texts j d
  pub new : (k : ℕ) (d : List ℕ) → k < length texts → ¬ (Contains given (slice_index_or texts k d))
