-- Conditions that fail, each with its code and its place. The refusal of a program is the one with the earliest place,
-- and there the one with the least code.
use Rattle.std.specs.Prelude.{ℕ, Bool, true, false, ◌&&◌, ◌||◌, ◌==◌, nat_lt, List, [], ◌∷◌, Option, Some, None, cond}
use Rattle.fast_fault.specs.declared.code.Code.{Code}
use Rattle.fast_fault.specs.declared.place.Pos.{Pos}
use Rattle.fast_fault.specs.declared.refusal.Refusal.{Refusal}
use Rattle.fast_fault.specs.Codes.{number_of}

-- the condition of this code fails at this place
abbrev pub failure : Code → Pos → List Refusal
failure code place = record { code = code; place = place } ∷ []

-- it fails where this is so
abbrev pub fails_if : Bool → Code → Pos → List Refusal
fails_if true code place = failure code place
fails_if false code place = []

-- whether a number is less than another, or is the same and something else decides
abbrev pub is_less_or_then : ℕ → ℕ → Bool → Bool
is_less_or_then m n otherwise = nat_lt m n || ((m == n) && otherwise)

-- whether a failing condition goes before another: by its line, its column and its code
abbrev pub goes_before : Refusal → Refusal → Bool
goes_before f g = is_less_or_then f.place.line g.place.line (is_less_or_then f.place.column g.place.column (nat_lt (number_of f.code) (number_of g.code)))

-- of two failing conditions the one that goes before, where one is known already
abbrev pub first_of : Option Refusal → Refusal → Option Refusal
first_of None f = Some f
first_of (Some g) f = cond (goes_before f g) (Some f) (Some g)

-- of these and one that is known already
abbrev pub first_among : Option Refusal → List Refusal → Option Refusal
first_among known [] = known
first_among known (f ∷ fs) = first_among (first_of known f) fs

abbrev pub is_empty : List Refusal → Bool
is_empty [] = true
is_empty (f ∷ fs) = false
