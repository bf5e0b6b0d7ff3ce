-- The parts of an assertion, as far as they are told apart token by token.
use Rattle.std.specs.Prelude.{Bool, true, false, List, ◌⊎◌}
use mathlib.Core.Logic.{inl, inr}
use Rattle.model_program.specs.declared.Word.TheVariants.{Same, IsEmpty, TypeCheck, RoundClose}
use Rattle.model_program.specs.Lexeme.{Lexeme}
use Rattle.model_program.specs.Joined.{◌⌢◌}
use Rattle.model_program.specs.Grammar.{sign}
use Rattle.model_grammar.specs.Syntax.{Expr, X, Claim, equal, member, empty, type_check}
use Rattle.model_grammar.specs.Terms.{IsX, AreLabels}
use Rattle.model_grammar.specs.Grammar.{IsIn, IsB}
use Rattle.program_reader.specs.Nodes.{IsXInside, AreXsToClose}

-- `==`, or `in`
abbrev pub IsRelation : Bool → List Lexeme → Type 0
IsRelation true = sign Same
IsRelation false = IsIn tt

-- what stands behind the left side
abbrev pub IsRight : Bool × X → List Lexeme → Type 0
IsRight v = IsRelation v.0 ⌢ IsX v.1

abbrev pub related : X → Bool × X → Claim
related x (true, y) = equal x y
related x (false, y) = member x y

-- What stands behind the first parenthesis of an assertion without parentheses of its own.
pub data IsBInside : Claim → List Lexeme → Type 0 where
  no_trees : (x : X) (tokens : List Lexeme) → (sign IsEmpty ⌢ IsX x ⌢ sign RoundClose) tokens → IsBInside (empty x) tokens
  checked : (x y z : X) (tokens : List Lexeme) → (sign TypeCheck ⌢ IsX x ⌢ IsX y ⌢ IsX z ⌢ sign RoundClose) tokens → IsBInside (type_check x y z) tokens
  compared : (x : X) (right : Bool × X) (tokens : List Lexeme) → (IsXInside x ⌢ IsRight right) tokens → IsBInside (related x right) tokens

-- What stands behind the first parenthesis of an assertion.
abbrev pub IsAInside : Claim → List Lexeme → Type 0
IsAInside claim tokens = IsBInside claim tokens ⊎ (IsB claim ⌢ sign RoundClose) tokens

-- What stands behind a parenthesis and a name: the rest of a tree, or the rest of a comparison in parentheses.
abbrev pub IsBehindName : (List Expr × (List X × (Bool × X))) ⊎ (Bool × X) → List Lexeme → Type 0
IsBehindName (inl v) = AreLabels v.0 ⌢ AreXsToClose v.1.0 ⌢ IsRight v.1.1
IsBehindName (inr v) = IsRight v ⌢ sign RoundClose
