-- Words that are operations, and those that are none.
use Rattle.std.specs.Prelude.{◌≡◌, List, [], ◌∷◌}
use Rattle.fast_fault.specs.declared.place.Pos.{Pos}
use Rattle.model_program.specs.declared.Word.{Word}
use Rattle.model_program.specs.Lexeme.{Lexeme}
use Rattle.model_grammar.specs.declared.Op1.{Op1}
use Rattle.model_grammar.specs.declared.Op2.{Op2}
use Rattle.model_grammar.specs.Operators.{op1_word, op2_word}
use Rattle.program_reader.specs.declared.operations.Front.{Front}
use Rattle.program_reader.specs.declared.operations.Front.TheVariants.{One, Two, Tree}

abbrev pub IsNoOp1 : Word → Type 0
IsNoOp1 w = (op : Op1) → w ≡ op1_word op → ⊥

abbrev pub IsNoOp2 : Word → Type 0
IsNoOp2 w = (op : Op2) → w ≡ op2_word op → ⊥

-- the next token is no operation on one operand
abbrev pub NoOp1 : List Lexeme → Type 0
NoOp1 [] = Unit {0}
NoOp1 (t ∷ ts) = IsNoOp1 t.word

-- the next token is no operation on two operands
abbrev pub NoOp2 : List Lexeme → Type 0
NoOp2 [] = Unit {0}
NoOp2 (t ∷ ts) = IsNoOp2 t.word

-- the word is what was found, at the place
abbrev pub IsFrontOf : Word → Pos → Front → Type 0
IsFrontOf w at (One op place) = (w ≡ op1_word op) × (place ≡ at)
IsFrontOf w at (Two op place) = (w ≡ op2_word op) × (place ≡ at)
IsFrontOf w at Tree = IsNoOp1 w × IsNoOp2 w

-- the next token is what was found
pub record StartsBy (tokens behind : List Lexeme) (found : Front) : Type 0 where
  pub token : Lexeme
  pub here : tokens ≡ token ∷ behind
  pub is : IsFrontOf token.word token.place found

abbrev pub IsFront : List Lexeme → List Lexeme → Front → Type 0
IsFront tokens behind Tree = NoOp1 tokens × NoOp2 tokens
IsFront tokens behind found = StartsBy tokens behind found
