-- What stands at a place of a text: a token, a blank or a comment.
use Rattle.std.specs.Prelude.{◌≡◌, ℕ, ◌≤◌, true, List, [], ◌∷◌, ◌++◌, length, codes, Option, Some, None}
use Rattle.std.specs.Option.{unwrap_or}
use Rattle.model_program.specs.declared.Word.{Word}
use Rattle.model_program.specs.declared.Word.TheVariants.{Id, Number, Quoted}
use Rattle.model_program.specs.Characters.{AllIn, LeavesOff, begins_name, in_name, is_digit, is_blank, in_line}
use Rattle.model_program.specs.Spellings.{spelled, keywords, hyphenated, signs}
use Rattle.model_program.specs.Quotes.{IsQuoted}

pub data PieceKind : Type 0 where
  Name : PieceKind
  Hyphenated : PieceKind
  Digits : PieceKind
  Text : PieceKind
  Sign : PieceKind
  Blank : PieceKind
  Comment : PieceKind

-- a letter or `_`, and then letters, digits, `_` and `.`
abbrev pub IsName : List ℕ → Type 0
IsName [] = ⊥
IsName (c ∷ cs) = (begins_name c ≡ true) × AllIn in_name cs

-- the whole run of digits, if it isn't too long
pub record IsNumber (cs behind : List ℕ) : Type 0 where
  pub digits : AllIn is_digit cs
  pub some : 1 ≤ length cs
  pub few : length cs ≤ 38
  pub whole : LeavesOff is_digit behind

-- two strokes and all that follows on the line
pub record IsComment (cs behind : List ℕ) : Type 0 where
  pub inside : List ℕ
  pub strokes : cs ≡ codes "//" ++ inside
  pub line : AllIn in_line inside
  pub whole : LeavesOff in_line behind

abbrev pub IsOneOf : List Word → List ℕ → Type 0
IsOneOf words cs = (w : Word) × (spelled words cs ≡ Some w)

-- these characters, with those behind them, are a piece of the kind
abbrev pub IsPiece : PieceKind → List ℕ → List ℕ → Type 0
IsPiece Name cs behind = IsName cs
IsPiece Hyphenated cs behind = IsOneOf hyphenated cs × LeavesOff in_name behind
IsPiece Digits cs behind = IsNumber cs behind
IsPiece Text cs behind = (values : List ℕ) × IsQuoted cs values
IsPiece Sign cs behind = IsOneOf signs cs
IsPiece Blank cs behind = (c : ℕ) × (cs ≡ c ∷ []) × (is_blank c ≡ true)
IsPiece Comment cs behind = IsComment cs behind

-- it is one, and no other front of the text is a longer one
pub record IsLongest (kind : PieceKind) (cs behind : List ℕ) : Type 0 where
  pub is : IsPiece kind cs behind
  pub longest : (other : PieceKind) (front rest : List ℕ) → cs ++ behind ≡ front ++ rest → IsPiece other front rest → length front ≤ length cs

-- no front of the text is a piece
abbrev pub HasNoPiece : List ℕ → Type 0
HasNoPiece text = (kind : PieceKind) (front rest : List ℕ) → text ≡ front ++ rest → IsPiece kind front rest → ⊥

-- The word that a piece is, if it is a token. A name that is spelled as a keyword is that keyword.
abbrev pub word_of : PieceKind → List ℕ → Option Word
word_of Name cs = Some (unwrap_or (spelled keywords cs) Id)
word_of Hyphenated cs = spelled hyphenated cs
word_of Digits cs = Some Number
word_of Text cs = Some Quoted
word_of Sign cs = spelled signs cs
word_of Blank cs = None
word_of Comment cs = None
