-- What stands at the front of a text, and what follows it.
use Rattle.std.specs.Prelude.{◌≡◌, ℕ, ◌≤◌, ◌==◌, ◌||◌, Bool, List, [], ◌∷◌, true, ◌++◌, length, encode_utf8_all, Option}
use Rattle.std.specs.Str.{chars}
use Rattle.fast_lex.specs.declared.scan.Class.{Class}
use Rattle.fast_lex.specs.declared.scan.Class.TheVariants.{Name, Digit, Hexadecimal, Line}
use Rattle.model_program.specs.Characters.{AllIn, LeavesOff, in_name, is_digit, is_hexadecimal, in_line}
use Rattle.model_program.specs.declared.Word.{Word}
use Rattle.model_program.specs.Pieces.{PieceKind, IsPiece, IsOneOf, IsLongest, word_of}
use Rattle.model_program.specs.Spellings.{signs}

abbrev pub class_of : Class → ℕ → Bool
class_of Name c = in_name c
class_of Digit c = is_digit c
class_of Hexadecimal c = is_hexadecimal c
class_of Line c = in_line c

-- the text is these characters and then the rest, as bytes and as characters
pub record IsBehind (front text rest : List ℕ) : Type 0 where
  pub bytes : text ≡ encode_utf8_all front ++ rest
  pub characters : chars text ≡ front ++ chars rest

-- the whole run of a class at the front of a text, and the rest
pub record IsRun (class : ℕ → Bool) (text rest : List ℕ) : Type 0 where
  pub front : List ℕ
  pub behind : IsBehind front text rest
  pub all : AllIn class front
  pub ends : LeavesOff class (chars rest)

-- the rest ends the text
pub record IsSuffix (text rest : List ℕ) : Type 0 where
  pub front : List ℕ
  pub behind : IsBehind front text rest

-- no piece of the kind begins the text
abbrev pub HasNone : PieceKind → List ℕ → Type 0
HasNone kind text = (front rest : List ℕ) → text ≡ front ++ rest → IsPiece kind front rest → ⊥

-- the longest piece of the kind at the front, which word it is, and the rest
pub record IsNext (kind : PieceKind) (word : Option Word) (text rest : List ℕ) : Type 0 where
  pub front : List ℕ
  pub behind : IsBehind front text rest
  pub is : IsPiece kind front (chars rest)
  pub longest : (other more : List ℕ) → front ++ chars rest ≡ other ++ more → IsPiece kind other more → length other ≤ length front
  pub named : word ≡ word_of kind front

-- the last character of a sign of two
abbrev pub ends_double : ℕ → Bool
ends_double c = (c == 61) || (c == 62)

-- no sign of two characters begins the text
abbrev pub HasNoDouble : List ℕ → Type 0
HasNoDouble text = (front rest : List ℕ) → text ≡ front ++ rest → IsOneOf signs front → length front ≡ 2 → ⊥

-- the longest piece at the front, which word it is, and the rest
pub record IsNextPiece (word : Option Word) (text rest : List ℕ) : Type 0 where
  pub kind : PieceKind
  pub front : List ℕ
  pub behind : IsBehind front text rest
  pub longest : IsLongest kind front (chars rest)
  pub named : word ≡ word_of kind front

-- the next character is of the class
abbrev pub NextIn : (ℕ → Bool) → List ℕ → Type 0
NextIn class [] = ⊥
NextIn class (c ∷ cs) = class c ≡ true
