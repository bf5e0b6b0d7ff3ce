-- A token as the grammar sees it.
use Rattle.std.specs.Prelude.{ℕ, List}
use Rattle.fast_fault.specs.declared.place.Pos.{Pos}
use Rattle.model_program.specs.declared.Word.{Word}

-- which word it is, its characters, the byte at which it starts, and its place by line and column
pub record Lexeme : Type 0 where
  pub word : Word
  pub text : List ℕ
  pub start : ℕ
  pub place : Pos
