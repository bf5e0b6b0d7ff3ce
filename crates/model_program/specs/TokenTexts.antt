-- Which texts the tokens of a word have.
use Rattle.std.specs.Prelude.{◌≡◌, ℕ, ◌≤◌, List, [], ◌∷◌, length, None}
use Rattle.model_program.specs.declared.Word.{Word}
use Rattle.model_program.specs.declared.Word.TheVariants.{Id, Number, Quoted}
use Rattle.model_program.specs.Lexeme.{Lexeme}
use Rattle.model_program.specs.Characters.{AllIn, is_digit}
use Rattle.model_program.specs.Spellings.{spelling, spelled, keywords}
use Rattle.model_program.specs.Quotes.{IsQuoted}
use Rattle.model_program.specs.Pieces.{IsName}

-- a name that is no keyword, up to 38 digits, a quoted text, or the word's spelling
abbrev pub IsTextOf : Word → List ℕ → Type 0
IsTextOf Id cs = IsName cs × (spelled keywords cs ≡ None)
IsTextOf Number cs = AllIn is_digit cs × (1 ≤ length cs) × (length cs ≤ 38)
IsTextOf Quoted cs = (values : List ℕ) × IsQuoted cs values
IsTextOf w cs = cs ≡ spelling w

abbrev pub HaveTexts : List Lexeme → Type 0
HaveTexts [] = Unit {0}
HaveTexts (t ∷ ts) = IsTextOf t.word t.text × HaveTexts ts
