-- A text as its tokens, blanks and comments.
use Rattle.std.specs.Prelude.{if◌then◌else◌, ◌≡◌, ◌≢◌, ℕ, ◌+◌, ◌==◌, List, [], ◌∷◌, ◌++◌, length, encode_utf8_all, Option, Some, None}
use Rattle.fast_fault.specs.declared.place.Pos.{Pos}
use Rattle.model_program.specs.declared.Word.{Word}
use Rattle.model_program.specs.Lexeme.{Lexeme}
use Rattle.model_program.specs.Pieces.{PieceKind, IsLongest, HasNoPiece, word_of}

pub record Piece : Type 0 where
  pub kind : PieceKind
  pub text : List ℕ

-- The text is these pieces, each the longest where it stands, and then the rest.
abbrev pub IsCut : List ℕ → List Piece → List ℕ → Type 0
IsCut text [] rest = text ≡ rest
IsCut text (p ∷ ps) rest = (behind : List ℕ) × (text ≡ p.text ++ behind) × IsLongest p.kind p.text behind × IsCut behind ps rest

-- A byte order mark at the very start of a text is a blank, and what follows it is the body.
abbrev pub mark_of : List ℕ → List ℕ
mark_of [] = []
mark_of (c ∷ cs) = if c == 0xFEFF then c ∷ [] else []

abbrev pub body_of : List ℕ → List ℕ
body_of [] = []
body_of (c ∷ cs) = if c == 0xFEFF then cs else c ∷ cs

-- A line feed ends a line, and a column counts characters.
abbrev pub place_next : Pos → ℕ → Pos
place_next p c = if c == 10 then record { line = p.line + 1; column = 1 } else record { line = p.line; column = p.column + 1 }

abbrev pub place_behind : Pos → List ℕ → Pos
place_behind p [] = p
place_behind p (c ∷ cs) = place_behind (place_next p c) cs

-- the place behind these characters of a text
abbrev pub place_after : List ℕ → Pos
place_after before = place_behind (record { line = 1; column = 1 }) before

-- the token that a piece is, behind these characters
abbrev pub lexeme_at : List ℕ → Option Word → List ℕ → List Lexeme
lexeme_at before None text = []
lexeme_at before (Some w) text = record { word = w; text = text; start = length (encode_utf8_all before); place = place_after before } ∷ []

-- the tokens among the pieces that follow these characters
abbrev pub lexemes_after : List ℕ → List Piece → List Lexeme
lexemes_after before [] = []
lexemes_after before (p ∷ ps) = lexeme_at before (word_of p.kind p.text) p.text ++ lexemes_after (before ++ p.text) ps

abbrev pub texts_of : List Piece → List ℕ
texts_of [] = []
texts_of (p ∷ ps) = p.text ++ texts_of ps

-- the text is made of pieces, and these are the tokens among them
pub record AreTokens (text : List ℕ) (tokens : List Lexeme) : Type 0 where
  pub pieces : List Piece
  pub cut : IsCut (body_of text) pieces []
  pub are : tokens ≡ lexemes_after (mark_of text) pieces

-- behind whole pieces the text hasn't ended, and no piece starts at that place
pub record StopsAt (text : List ℕ) (place : Pos) : Type 0 where
  pub pieces : List Piece
  pub rest : List ℕ
  pub cut : IsCut (body_of text) pieces rest
  pub goes_on : rest ≢ []
  pub none : HasNoPiece rest
  pub is : place ≡ place_after (mark_of text ++ texts_of pieces)
