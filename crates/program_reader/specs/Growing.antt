-- Expressions that are read node by node.
use Rattle.std.specs.Prelude.{List, [], ◌∷◌, ◌++◌, map, Result, Ok, Err}
use Rattle.model_program.specs.declared.Word.TheVariants.{RoundClose}
use Rattle.model_program.specs.Lexeme.{Lexeme}
use Rattle.model_program.specs.Syntax as syntax
use Rattle.model_program.specs.Joined.{◌⊗◌}
use Rattle.model_program.specs.Grammar.{IsSign}
use Rattle.read_forms.specs.Reads.{Fails, closed}
use Rattle.read_forms.specs.Fronts.{Leaves, Done, Made, Through}
use Rattle.model_grammar.specs.Syntax.{Expr, X, one, two, literal, xs_of}
use Rattle.model_grammar.specs.Terms.{IsX}
use Rattle.fast_syntax.specs.View.{plain_name}
use Rattle.fast_syntax.specs.Plain.{plain_expr, plain_x}
use Rattle.label_reader.specs.declared.stop.Stop.{Stop}
use Rattle.label_reader.specs.Results.{bad_of}
use Rattle.program_reader.specs.Nodes.{AreXsToClose}
use Rattle.program_reader.specs.declared.terms.Open.{Open}
use Rattle.program_reader.specs.declared.terms.Open.TheVariants.{One, First, Second, Inner}
use Rattle.program_reader.specs.declared.terms.Begun.{Begun}
use Rattle.program_reader.specs.declared.terms.Begun.TheVariants.{Whole, Part}

-- the closing parenthesis, and then this is the value
abbrev pub Closes : X → X → List Lexeme → Type 0
Closes x = Made (λ _. x) (IsSign RoundClose)

-- further children of a tree, and the closing parenthesis
abbrev pub IsRow : syntax.Name → List Expr → List X → X → List Lexeme → Type 0
IsRow name labels xs = Made (λ more. literal name labels (xs_of (xs ++ more))) AreXsToClose

-- what is left of an open node behind its next child
abbrev pub IsGrown : Open → X → X → List Lexeme → Type 0
IsGrown (One op place) x = Closes (one op place x)
IsGrown (First op place) x = Made (λ v. two op place x v.0) (IsX ⊗ IsSign RoundClose)
IsGrown (Second op place first) x = Closes (two op place (plain_x first) x)
IsGrown (Inner name labels xs) x = IsRow (plain_name name) (map plain_expr labels.items) (map plain_x xs.items ++ x ∷ [])

-- what is left of an expression that has been begun
abbrev pub IsLeft : Begun → X → List Lexeme → Type 0
IsLeft (Whole x) = Done (plain_x x)
IsLeft (Part node) = Through IsX (IsGrown node)

-- what a reader that begins a form did with these tokens, of which it left the rest
abbrev pub Begins : (X → List Lexeme → Type 0) → List Lexeme → List Lexeme → Result Begun Stop → Type 0
Begins form tokens rest (Ok begun) = Leaves form (IsLeft begun) closed tokens rest
Begins form tokens rest (Err e) = Fails form closed tokens (bad_of e rest)
