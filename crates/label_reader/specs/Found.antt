-- The operator that comes next, and signs between two operands.
use Rattle.std.specs.Prelude.{◌≡◌, Bool, false, List, ◌∷◌}
use Rattle.fast_fault.specs.declared.place.Pos.{Pos}
use Rattle.model_program.specs.declared.Word.{Word}
use Rattle.model_program.specs.declared.Word.TheVariants as word
use Rattle.model_program.specs.Lexeme.{Lexeme}
use Rattle.model_program.specs.Joined.{IsOther}
use Rattle.model_grammar.specs.declared.Chain.{Chain}
use Rattle.model_grammar.specs.Operators.{IsSignOf, IsMany, rel_word, is_marking}
use Rattle.label_reader.specs.Levels.{IsNoMany, NoMany, IsNoRel, NoRel}
use Rattle.label_reader.specs.declared.operators.Operator.{Operator}
use Rattle.label_reader.specs.declared.operators.Operator.TheVariants.{Minus, Many, Percent, Compare, Other}

-- an operator of any number of operands, with its place, and whether it marks them
pub record IsOperator (kind : Chain) (mark : Bool) (place : Pos) (w : Word) (at : Pos) : Type 0 where
  pub many : IsMany kind w
  pub marks : mark ≡ is_marking w
  pub is_at : place ≡ at

-- the word is what was found, at the place
abbrev pub IsFound : Word → Pos → Operator → Type 0
IsFound w at (Minus place) = (w ≡ word.Minus) × (place ≡ at)
IsFound w at (Many place kind) = IsOperator kind false place w at
IsFound w at (Percent place) = (w ≡ word.Percent) × (place ≡ at)
IsFound w at (Compare place rel) = (w ≡ rel_word rel) × (place ≡ at)
IsFound w at Other = (w ≡ word.Minus → ⊥) × IsNoMany w × (w ≡ word.Percent → ⊥) × IsNoRel w

-- the next token is what was found
pub record FindsNext (tokens behind : List Lexeme) (found : Operator) : Type 0 where
  pub token : Lexeme
  pub here : tokens ≡ token ∷ behind
  pub is : IsFound token.word token.place found

abbrev pub IsFoundNext : List Lexeme → List Lexeme → Operator → Type 0
IsFoundNext tokens behind Other = IsOther word.Minus tokens × NoMany tokens × IsOther word.Percent tokens × NoRel tokens
IsFoundNext tokens behind found = FindsNext tokens behind found

-- the next token is a sign of the chain, at the place, and marks the operand behind it or doesn't
pub record IsSigned (kind : Chain) (tokens behind : List Lexeme) (place : Pos) (mark : Bool) : Type 0 where
  pub token : Lexeme
  pub here : tokens ≡ token ∷ behind
  pub sign : IsSignOf kind token.word
  pub is_at : place ≡ token.place
  pub marks : mark ≡ is_marking token.word
