-- What stands in the parentheses of expressions and output terms, up to the closing one.
use Rattle.std.specs.Prelude.{◌≡◌, List, ◌∷◌, ◌⊎◌}
use mathlib.Core.Logic.{inl, inr}
use Rattle.model_program.specs.declared.Word.TheVariants.{RoundClose}
use Rattle.model_program.specs.Lexeme.{Lexeme}
use Rattle.model_program.specs.Syntax.{Name}
use Rattle.model_program.specs.Joined.{◌⌢◌}
use Rattle.model_program.specs.Grammar.{sign, IsName, Many}
use Rattle.model_grammar.specs.declared.Op1.{Op1}
use Rattle.model_grammar.specs.declared.Op2.{Op2}
use Rattle.model_grammar.specs.Operators.{op1_word, op2_word}
use Rattle.model_grammar.specs.Syntax.{Expr, X, one, two, literal, xs_of, Out}
use Rattle.model_grammar.specs.Terms.{AreLabels, IsX, IsOut}
use Rattle.program_reader.specs.Names.{IsNameTo}

-- children and the closing parenthesis
abbrev pub AreXsToClose : List X → List Lexeme → Type 0
AreXsToClose xs = Many IsX xs ⌢ sign RoundClose

abbrev pub AreOutsToClose : List Out → List Lexeme → Type 0
AreOutsToClose outs = Many IsOut outs ⌢ sign RoundClose

pub data IsXInside : X → List Lexeme → Type 0 where
  -- Op1 X )
  on_one : (op : Lexeme) (kind : Op1) (x : X) (inside : List Lexeme) → op.word ≡ op1_word kind → (IsX x ⌢ sign RoundClose) inside → IsXInside (one kind op.place x) (op ∷ inside)
  -- Op2 X X )
  on_two : (op : Lexeme) (kind : Op2) (x y : X) (inside : List Lexeme) → op.word ≡ op2_word kind → (IsX x ⌢ IsX y ⌢ sign RoundClose) inside → IsXInside (two kind op.place x y) (op ∷ inside)
  -- ID Labels X* )
  new : (n : Name) (labels : List Expr) (xs : List X) (inside : List Lexeme) → (IsName n ⌢ AreLabels labels ⌢ AreXsToClose xs) inside → IsXInside (literal n labels (xs_of xs)) inside

-- What stands behind the first name of an output term: a child and the closing parenthesis, or labels and children.
abbrev pub IsBehindOutName : Name ⊎ (List Expr × List Out) → List Lexeme → Type 0
IsBehindOutName (inl y) = IsNameTo RoundClose y
IsBehindOutName (inr v) = AreLabels v.0 ⌢ AreOutsToClose v.1
