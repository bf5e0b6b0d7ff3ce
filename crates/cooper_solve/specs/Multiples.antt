-- The least common multiple of many numbers.
use Rattle.std.specs.Prelude.{ℕ, ℤ, ◌^◌, ◌≤◌, ◌<◌, List, unsigned_abs}
use Rattle.std.specs.Int.{◌∣◌}
use Rattle.std.specs.List.{All}

-- the numbers that each of these divides are the multiples of l
pub record IsLeastMultiple (numbers : List ℤ) (l : ℕ) : Type 0 where
  pub some : 0 < l
  pub to : (m : ℕ) → l ∣ m → All (λ n. unsigned_abs n ∣ m) numbers
  pub from : (m : ℕ) → All (λ n. unsigned_abs n ∣ m) numbers → l ∣ m

-- their least common multiple is outside 128 bits
abbrev pub IsBeyond : List ℤ → Type 0
IsBeyond numbers = (l : ℕ) → IsLeastMultiple numbers l → 2 ^ 127 ≤ l
