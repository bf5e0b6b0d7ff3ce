-- A text that spells the items of a program again.
use Rattle.std.specs.Prelude.{◌≡◌, ℕ, List, None}
use Rattle.std.specs.Str.{chars, IsUtf8}
use Rattle.model_program.specs.Lexeme.{Lexeme}
use Rattle.model_program.specs.Cuts.{AreTokens}
use Rattle.model_grammar.specs.Syntax.{Item}
use Rattle.model_grammar.specs.Places.{bare_items}
use Rattle.model_grammar.specs.Grammar.{IsProgram}
use Rattle.model_grammar.specs.Nesting.{nested_at}

-- The bytes are characters, these are tokens, no parenthesis is nested too deep, and the tokens spell items that are the same, places aside.
pub record SpellsAgain (bytes : List ℕ) (items : List Item) : Type 0 where
  pub encoded : IsUtf8 bytes
  pub tokens : List Lexeme
  pub are : AreTokens (chars bytes) tokens
  pub shallow : nested_at tokens ≡ None
  pub again : List Item
  pub spelled : IsProgram again tokens
  pub same : bare_items again ≡ bare_items items
