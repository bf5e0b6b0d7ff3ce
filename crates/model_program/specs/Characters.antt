-- Classes of characters, and runs of them.
use Rattle.std.specs.Prelude.{◌≡◌, ℕ, Bool, true, false, ◌||◌, ◌==◌, List, [], ◌∷◌, not}
use Rattle.std.specs.Char.{is_ascii_alphabetic, is_ascii_digit, is_ascii_hexdigit}

-- a letter or `_` begins a name
abbrev pub begins_name : ℕ → Bool
begins_name c = is_ascii_alphabetic c || (c == 95)

-- and letters, digits, `_` and `.` go on in it
abbrev pub in_name : ℕ → Bool
in_name c = is_ascii_alphabetic c || (c == 95) || is_ascii_digit c || (c == 46)

abbrev pub is_digit : ℕ → Bool
is_digit c = is_ascii_digit c

abbrev pub is_hexadecimal : ℕ → Bool
is_hexadecimal c = is_ascii_hexdigit c

-- a space, a tab, a carriage return or a line feed
abbrev pub is_blank : ℕ → Bool
is_blank c = (c == 32) || (c == 9) || (c == 13) || (c == 10)

-- all but a line feed
abbrev pub in_line : ℕ → Bool
in_line c = not (c == 10)

-- what stands for itself between quotes: all but `"`, a backslash and a line feed
abbrev pub in_quotes : ℕ → Bool
in_quotes c = not ((c == 34) || (c == 92) || (c == 10))

abbrev pub AllIn : (ℕ → Bool) → List ℕ → Type 0
AllIn class [] = Unit {0}
AllIn class (c ∷ cs) = (class c ≡ true) × AllIn class cs

-- the characters have ended, or the next one is not of the class
abbrev pub LeavesOff : (ℕ → Bool) → List ℕ → Type 0
LeavesOff class [] = Unit {0}
LeavesOff class (c ∷ cs) = class c ≡ false
