-- Pieces that stand as they are in a text.
use Rattle.std.specs.Prelude.{◌≡◌, ℕ, Bool, true, ◌||◌, ◌==◌, List, [], ◌∷◌, ◌++◌}
use Rattle.model_program.specs.Cuts.{Piece, texts_of}
use Rattle.model_program.specs.Pieces.{IsLongest}

-- what parts any token from what is before it: a blank, a line feed, `(`, `)`, `,` or `]`
abbrev pub is_parting : ℕ → Bool
is_parting c = (c == 32) || (c == 10) || (c == 40) || (c == 41) || (c == 44) || (c == 93)

-- the text has ended, or begins with what parts tokens
abbrev pub IsParted : List ℕ → Type 0
IsParted [] = Unit {0}
IsParted (c ∷ cs) = is_parting c ≡ true

-- each piece is the longest where it stands, before this text
abbrev pub AreLaid : List Piece → List ℕ → Type 0
AreLaid [] after = Unit {0}
AreLaid (p ∷ ps) after = IsLongest p.kind p.text (texts_of ps ++ after) × AreLaid ps after
