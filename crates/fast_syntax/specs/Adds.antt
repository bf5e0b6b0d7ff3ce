-- What is added to a text.
use Rattle.std.specs.Prelude.{◌≡◌, ℕ, List, ◌++◌}
use Rattle.model_program.specs.Cuts.{Piece, texts_of}

-- the text goes on by these pieces
pub record Adds (old new : List ℕ) (pieces : List Piece) : Type 0 where
  pub is : new ≡ old ++ texts_of pieces
