-- Tokens of constants.
use Rattle.std.specs.Prelude.{◌≡◌, ◌<◌, ◌^◌, ℕ, ℤ, pos, List, ◌∷◌}
use Rattle.std.specs.Str.Parse.{digits_value}
use Rattle.fast_fault.specs.declared.place.Pos.{Pos}
use Rattle.model_program.specs.declared.Word.TheVariants.{Number, Quoted}
use Rattle.model_program.specs.Lexeme.{Lexeme}
use Rattle.model_program.specs.Grammar.{IsWord, IsDigits}
use Rattle.model_program.specs.Quotes.{IsQuoted}

-- a NUMBER token
abbrev pub IsNumeral : Lexeme → List Lexeme → Type 0
IsNumeral t tokens = IsWord Number t tokens × IsDigits t.text

-- the number that it writes
abbrev pub IsAmount : Lexeme → ℤ → Type 0
IsAmount t n = (n ≡ pos (digits_value 10 t.text)) × (digits_value 10 t.text < 10 ^ 38)

-- the tokens don't begin with a NUMBER token
abbrev pub NoNumeral : List Lexeme → Type 0
NoNumeral tokens = (t : Lexeme) (rest : List Lexeme) → tokens ≡ t ∷ rest → t.word ≡ Number → IsDigits t.text → ⊥

-- they begin with it, and it writes the number
pub record IsNumeralAt (tokens : List Lexeme) (place : Pos) (n : ℤ) (rest : List Lexeme) : Type 0 where
  pub token : Lexeme
  pub here : tokens ≡ token ∷ rest
  pub word : token.word ≡ Number
  pub digits : IsDigits token.text
  pub amount : IsAmount token n
  pub at : place ≡ token.place

-- whatever stands behind it
abbrev pub IsNumeralNext : List Lexeme → Pos → ℤ → Type 0
IsNumeralNext tokens place n = (rest : List Lexeme) × IsNumeralAt tokens place n rest

-- STRING, by what it stands for
abbrev pub IsQuotation : List ℕ → List Lexeme → Type 0
IsQuotation values tokens = (t : Lexeme) × IsWord Quoted t tokens × IsQuoted t.text values

-- its token, and what it stands for
abbrev pub IsString : Lexeme × List ℕ → List Lexeme → Type 0
IsString v tokens = IsWord Quoted v.0 tokens × IsQuoted v.0.text v.1

-- the tokens don't begin with a STRING token
abbrev pub NoString : List Lexeme → Type 0
NoString tokens = (t : Lexeme) (rest : List Lexeme) (values : List ℕ) → tokens ≡ t ∷ rest → t.word ≡ Quoted → IsQuoted t.text values → ⊥
