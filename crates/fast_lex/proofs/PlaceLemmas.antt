-- How a place moves.
use Rattle.std.proofs.Common.{ℕ, ◌+◌, ◌≤◌, Bool, true, false, List, [], ◌∷◌, length, arith, ◌==◌, if◌then◌else◌}
use Rattle.fast_fault.specs.declared.place.Pos.{Pos}
use Rattle.model_program.specs.Cuts.{place_next, place_behind}

abbrev moved_by : Bool → Pos → Pos
moved_by b p = if b then record { line = p.line + 1; column = 1 } else record { line = p.line; column = p.column + 1 }

pub next_line : (p : Pos) (c : ℕ) → (place_next p c).line ≤ p.line + 1
next_line p c = by (c == 10)
  where
    by : (b : Bool) → (moved_by b p).line ≤ p.line + 1
    by true = omega arith
    by false = omega arith

pub next_column : (p : Pos) (c : ℕ) → (place_next p c).column ≤ p.column + 1
next_column p c = by (c == 10)
  where
    by : (b : Bool) → (moved_by b p).column ≤ p.column + 1
    by true = omega arith
    by false = omega arith

-- neither a line nor a column grows faster than the characters
pub behind_line : (p : Pos) (cs : List ℕ) → (place_behind p cs).line ≤ p.line + length cs
behind_line p [] = omega arith
behind_line p (c ∷ cs) = let e = behind_line (place_next p c) cs in let f = next_line p c in omega arith

pub behind_column : (p : Pos) (cs : List ℕ) → (place_behind p cs).column ≤ p.column + length cs
behind_column p [] = omega arith
behind_column p (c ∷ cs) = let e = behind_column (place_next p c) cs in let f = next_column p c in omega arith
