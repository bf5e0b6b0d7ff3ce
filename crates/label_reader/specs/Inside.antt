-- What stands in the parentheses of a label expression, up to the closing one.
use Rattle.std.specs.Prelude.{◌≡◌, pos, List, [], ◌∷◌, ◌++◌, ◌⊎◌, map}
use Rattle.std.specs.Str.Parse.{digits_value}
use Rattle.model_program.specs.declared.Word.TheVariants.{RoundClose, Percent, Number}
use Rattle.model_program.specs.Lexeme.{Lexeme}
use Rattle.model_program.specs.Joined.{◌⌢◌}
use Rattle.read_forms.specs.Reads.{Stops, StartsIn}
use Rattle.model_program.specs.Grammar.{sign, IsDigits}
use Rattle.model_grammar.specs.declared.Rel.{Rel}
use Rattle.model_grammar.specs.declared.Chain.{Chain}
use Rattle.model_grammar.specs.declared.Chain.TheVariants.{Product}
use Rattle.model_grammar.specs.declared.Level.TheVariants.{Prim}
use Rattle.model_grammar.specs.Operators.{rel_word, IsMany}
use Rattle.model_grammar.specs.Syntax.{Expr, field, number, text, truth, negation, compare, minus, chain}
use Rattle.model_grammar.specs.Expressions.{IsExpr, IsE, ArePrims, chain_of}
use Rattle.label_reader.specs.Levels.{BeginsAt}

pub data IsInside : Expr → List Lexeme → Type 0 where
  -- E )
  nested : (right : Lexeme) (e : Expr) (inside : List Lexeme) → right.word ≡ RoundClose → IsE e inside → IsInside e (inside ++ right ∷ [])
  -- Many Prim Prim+ )
  many : (op right : Lexeme) (kind : Chain) (first second : Expr) (others : List Expr) (front back : List Lexeme) → IsMany kind op.word → right.word ≡ RoundClose → IsExpr Prim first front → ArePrims (second ∷ others) back → IsInside (chain_of kind first (map (λ e. (op, e)) (second ∷ others))) (op ∷ front ++ (back ++ right ∷ []))
  -- % Prim Prim )
  remainder : (op right : Lexeme) (a b : Expr) (front back : List Lexeme) → op.word ≡ Percent → right.word ≡ RoundClose → IsExpr Prim a front → IsExpr Prim b back → IsInside (chain_of Product a ((op, b) ∷ [])) (op ∷ front ++ (back ++ right ∷ []))
  -- Rel Prim Prim )
  compared : (op right : Lexeme) (rel : Rel) (a b : Expr) (front back : List Lexeme) → op.word ≡ rel_word rel → right.word ≡ RoundClose → IsExpr Prim a front → IsExpr Prim b back → IsInside (compare op.place rel a b) (op ∷ front ++ (back ++ right ∷ []))

-- two operands and the closing parenthesis
abbrev pub AreTwo : Expr × Expr → List Lexeme → Type 0
AreTwo ab = IsExpr Prim ab.0 ⌢ IsExpr Prim ab.1 ⌢ sign RoundClose

-- an operand and more, and the closing parenthesis
abbrev pub AreOperands : List Expr → List Lexeme → Type 0
AreOperands [] = λ _. ⊥
AreOperands (second ∷ others) = ArePrims (second ∷ others) ⌢ sign RoundClose

-- What stands behind the first operand of an operator that stands before its operands.
pub record IsBehindFirst (kind : Chain) (op : Lexeme) (first value : Expr) (tokens : List Lexeme) : Type 0 where
  pub others : List Expr
  pub spelled : AreOperands others tokens
  pub is : value ≡ chain_of kind first (map (λ e. (op, e)) others)

-- The expression is `-` before one operand and nothing more; with the tokens behind the `-`, the operand.
abbrev pub IsBare : Expr → List Lexeme → Expr → Type 0
IsBare (minus place e) behind operand = operand ≡ e
IsBare (number place n) behind operand = (t : Lexeme) × (more : List Lexeme) × (behind ≡ t ∷ more) × (t.word ≡ Number) × IsDigits t.text × (operand ≡ number t.place (pos (digits_value 10 t.text)))
IsBare (field place t) behind operand = ⊥
IsBare (text place t) behind operand = ⊥
IsBare (truth place b) behind operand = ⊥
IsBare (negation place e) behind operand = ⊥
IsBare (compare place rel a b) behind operand = ⊥
IsBare (chain kind place parts) behind operand = ⊥

-- no operand makes it so
abbrev pub IsNotBare : Expr → List Lexeme → Type 0
IsNotBare e behind = (operand : Expr) → IsBare e behind operand → ⊥

-- a primary expression comes next
abbrev pub StartsPrimary : List Lexeme → Type 0
StartsPrimary tokens = StartsIn (BeginsAt Prim) tokens

-- The operand behind a `-` alone, where a primary expression comes next.
pub record IsUnsigned (e : Expr) (behind : List Lexeme) (operand : Expr) (rest : List Lexeme) : Type 0 where
  pub bare : IsBare e behind operand
  pub more : StartsPrimary rest

-- The same expression, which isn't `-` before one operand, or behind which no primary expression comes.
pub record IsWhole (e : Expr) (behind : List Lexeme) (same : Expr) (rest : List Lexeme) : Type 0 where
  pub is : same ≡ e
  pub why : IsNotBare e behind ⊎ Stops (BeginsAt Prim) rest
