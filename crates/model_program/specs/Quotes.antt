-- What digits amount to, and what a quoted text stands for.
use Rattle.std.specs.Prelude.{if◌then◌else◌, ◌≡◌, ℕ, ◌+◌, ◌*◌, ◌≤◌, true, ◌==◌, List, [], ◌∷◌, ◌++◌, length, Option, Some, None}
use Rattle.std.specs.Char.{IsScalar, digit_value}
use Rattle.model_program.specs.Characters.{AllIn, is_hexadecimal, in_quotes}

-- digits in a base, behind digits that amount to `before`
abbrev pub amount : ℕ → ℕ → List ℕ → ℕ
amount base before [] = before
amount base before (c ∷ cs) = amount base (before * base + digit_value c) cs

-- the number that a run of digits writes
abbrev pub number_value : List ℕ → ℕ
number_value digits = amount 10 0 digits

-- what a backslash and this character stand for
abbrev pub escape : ℕ → Option ℕ
escape c = if c == 34 then Some 34 else if c == 92 then Some 92 else if c == 110 then Some 10 else if c == 116 then Some 9 else None

-- `{`, 1 to 6 hexadecimal digits and `}`, and the character whose number they write
pub record IsBraced (cs : List ℕ) (value : ℕ) : Type 0 where
  pub digits : List ℕ
  pub braces : cs ≡ 123 ∷ digits ++ 125 ∷ []
  pub hexadecimal : AllIn is_hexadecimal digits
  pub some : 1 ≤ length digits
  pub few : length digits ≤ 6
  pub amounts : value ≡ amount 16 0 digits
  pub scalar : IsScalar value

-- A character between quotes or an escape, and the character that it stands for.
pub data IsUnit : List ℕ → ℕ → Type 0 where
  plain : (c : ℕ) → in_quotes c ≡ true → IsUnit (c ∷ []) c
  short : (c value : ℕ) → escape c ≡ Some value → IsUnit (92 ∷ c ∷ []) value
  long : (braced : List ℕ) (value : ℕ) → IsBraced braced value → IsUnit (92 ∷ 117 ∷ braced) value

pub data AreUnits : List ℕ → List ℕ → Type 0 where
  no_units : AreUnits [] []
  unit : (front back : List ℕ) (value : ℕ) (values : List ℕ) → IsUnit front value → AreUnits back values → AreUnits (front ++ back) (value ∷ values)

-- the text is a quoted one, and stands for these characters
pub record IsQuoted (text values : List ℕ) : Type 0 where
  pub inside : List ℕ
  pub quotes : text ≡ 34 ∷ inside ++ 34 ∷ []
  pub units : AreUnits inside values

abbrev pub led_by : Option ℕ → List ℕ → List ℕ
led_by None cs = cs
led_by (Some c) cs = c ∷ cs

-- The characters that a quoted text stands for, read from left to right behind the first quote.
abbrev mutual
  pub plain_from : List ℕ → List ℕ
  plain_from [] = []
  plain_from (c ∷ cs) = if c == 34 then [] else if c == 92 then escape_from cs else c ∷ plain_from cs

  pub escape_from : List ℕ → List ℕ
  escape_from [] = []
  escape_from (c ∷ cs) = if c == 117 then braced_from 0 cs else led_by (escape c) (plain_from cs)

  pub braced_from : ℕ → List ℕ → List ℕ
  braced_from before [] = []
  braced_from before (c ∷ cs) = if c == 125 then before ∷ plain_from cs else if c == 123 then braced_from 0 cs else braced_from (before * 16 + digit_value c) cs

abbrev pub quoted_value : List ℕ → List ℕ
quoted_value [] = []
quoted_value (c ∷ cs) = plain_from cs
