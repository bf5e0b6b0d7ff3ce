-- Rows of truth values, as bits of words of 64 bits, and what is put into them.
use Rattle.std.specs.Prelude.{ℕ, ◌+◌, ◌*◌, ◌/◌, ◌%◌, ◌==◌, Bool, true, false, cond, List, [], map, get_or, set}
use Rattle.std.specs.Int.{bit_at}
use Rattle.model_sta.specs.Sets.{Row}
use Rattle.model_sta.specs.Tabled.{tabulate}

-- a row for each node, of so many states
pub record Marked : Type 0 where
  pub states : ℕ
  pub rows : List Row

-- how many words a row of so many states takes
abbrev pub width : ℕ → ℕ
width states = states / 64 + 1

-- the bit of a node and a state
abbrev pub bit_in : ℕ → List ℕ → ℕ → ℕ → Bool
bit_in states words n s = bit_at (get_or words (n * width states + s / 64) 0) (s % 64) == 1

abbrev pub rows_in : ℕ → ℕ → List ℕ → List Row
rows_in states nodes words = tabulate nodes (λ n. tabulate states (bit_in states words n))

-- the row of no state
abbrev pub no_state : ℕ → Row
no_state states = tabulate states (λ s. false)

-- the row with the state, if so it is
abbrev pub with_state : ℕ → Bool → Row → Row
with_state s b row = cond b (set row s true) row

-- the same with the row of a node changed
abbrev pub with_row : Marked → ℕ → Row → Marked
with_row m n row = record { states = m.states; rows = set m.rows n row }

-- the rows of these nodes
abbrev pub rows_at : Marked → List ℕ → List Row
rows_at m nodes = map (λ n. get_or m.rows n []) nodes
