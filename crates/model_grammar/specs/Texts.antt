-- Texts of programs and of trees, as the bytes of a file.
use Rattle.std.specs.Prelude.{◌≡◌, ℕ, ◌≤◌, List, length, None}
use Rattle.std.specs.Str.{chars, IsUtf8}
use Rattle.model_tree.specs.Limits.{most_bytes}
use Rattle.model_program.specs.Lexeme.{Lexeme}
use Rattle.model_program.specs.Cuts.{AreTokens}
use Rattle.model_grammar.specs.Nesting.{nested_at}

-- The bytes aren't too many, they are characters, the characters are tokens, no parenthesis is nested too deep, and the tokens spell the value.
pub record IsText {A : Type 0} (form : A → List Lexeme → Type 0) (bytes : List ℕ) (value : A) : Type 0 where
  pub short : length bytes ≤ most_bytes
  pub encoded : IsUtf8 bytes
  pub tokens : List Lexeme
  pub are : AreTokens (chars bytes) tokens
  pub shallow : nested_at tokens ≡ None
  pub spelled : form value tokens
