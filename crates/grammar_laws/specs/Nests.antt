-- Tokens that stay within the limits of nesting.
use Rattle.std.specs.Prelude.{◌≡◌, false, List, [], ◌∷◌}
use Rattle.model_program.specs.Lexeme.{Lexeme}
use Rattle.model_grammar.specs.Nesting.{Mark, passes, marked}

-- behind these marks no token passes its limit, and these marks are left
abbrev pub Runs : List Mark → List Lexeme → List Mark → Type 0
Runs marks [] left = marks ≡ left
Runs marks (t ∷ ts) left = (passes t.word marks ≡ false) × Runs (marked t.word marks) ts left

-- wherever the second tokens stay within the limits, the first do, and leave the same marks
pub record NoDeeper (tokens others : List Lexeme) : Type 0 where
  pub runs : (marks left : List Mark) → Runs marks others left → Runs marks tokens left
