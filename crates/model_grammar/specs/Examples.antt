-- Small lists of tokens, to try the definitions on.
use Rattle.std.specs.Prelude.{ℕ, ◌+◌, zero, suc, List, [], ◌∷◌}
use Rattle.fast_fault.specs.declared.place.Pos.{Pos}
use Rattle.model_program.specs.declared.Word.{Word}
use Rattle.model_program.specs.Lexeme.{Lexeme}
use Rattle.model_program.specs.Spellings.{spelling}

-- a place on the first line
abbrev pub column : ℕ → Pos
column n = record { line = 1; column = n }

abbrev pub tokens_from : ℕ → List Word → List Lexeme
tokens_from n [] = []
tokens_from n (w ∷ ws) = record { word = w; text = spelling w; start = n; place = column n } ∷ tokens_from (n + 1) ws

-- these words as tokens, numbered by their columns
abbrev pub tokens_of : List Word → List Lexeme
tokens_of ws = tokens_from 1 ws

-- a word as often as the number says, before others
abbrev pub times : ℕ → Word → List Word → List Word
times zero w ws = ws
times (suc n) w ws = w ∷ times n w ws
