-- Why and where a text is refused. The first refusal that holds is told: the text is too long, its bytes are no characters,
-- these are no tokens, a parenthesis is nested too deep, or the tokens are none of the form.
use Rattle.std.specs.Prelude.{◌≡◌, ℕ, ◌≤◌, ◌<◌, List, length, Some, None}
use Rattle.std.specs.Str.{chars, IsUtf8}
use Rattle.model_tree.specs.Limits.{most_bytes}
use Rattle.fast_fault.specs.declared.place.Pos.{Pos}
use Rattle.fast_fault.specs.declared.code.Code.{Code}
use Rattle.fast_fault.specs.declared.code.Code.TheVariants.{TooLong, NotUtf8, Token, Nested, Syntax}
use Rattle.model_program.specs.Lexeme.{Lexeme}
use Rattle.model_program.specs.Cuts.{AreTokens, StopsAt, place_after}
use Rattle.model_program.specs.Texts.{IsBadUtf8At}
use Rattle.model_grammar.specs.Nesting.{nested_at}
use Rattle.model_grammar.specs.Wrong.{IsWrongAt}

-- where a text starts
abbrev pub start : Pos
start = record { line = 1; column = 1 }

-- The bytes aren't too many, they are characters, and these are the tokens.
pub record AreTokensOf (bytes : List ℕ) (tokens : List Lexeme) : Type 0 where
  pub short : length bytes ≤ most_bytes
  pub encoded : IsUtf8 bytes
  pub are : AreTokens (chars bytes) tokens

-- and no parenthesis is nested too deep
pub record AreShallowTokens (bytes : List ℕ) (tokens : List Lexeme) : Type 0 where
  pub tokens_of : AreTokensOf bytes tokens
  pub shallow : nested_at tokens ≡ None

-- the refusals that don't ask what the tokens spell
abbrev pub IsEarlyRefusal : List ℕ → Code → Pos → Type 0
IsEarlyRefusal bytes TooLong place = (most_bytes < length bytes) × (place ≡ start)
IsEarlyRefusal bytes NotUtf8 place = (length bytes ≤ most_bytes) × IsBadUtf8At bytes place
IsEarlyRefusal bytes Token place = (length bytes ≤ most_bytes) × IsUtf8 bytes × StopsAt (chars bytes) place
IsEarlyRefusal bytes Nested place = (tokens : List Lexeme) × AreTokensOf bytes tokens × (nested_at tokens ≡ Some place)
IsEarlyRefusal bytes code place = ⊥

-- a text of no value of the form
abbrev pub IsRefusal : {A : Type 0} → (A → List Lexeme → Type 0) → List ℕ → Code → Pos → Type 0
IsRefusal form bytes Syntax place = (tokens : List Lexeme) × AreShallowTokens bytes tokens × IsWrongAt form tokens (place_after (chars bytes)) place
IsRefusal form bytes code place = IsEarlyRefusal bytes code place
