-- Labels, expressions of languages, transformations and trees, and output terms.
use Rattle.std.specs.Prelude.{◌≡◌, List, [], ◌∷◌, ◌++◌, ◌⊎◌}
use Rattle.model_program.specs.declared.Word.TheVariants.{RoundOpen, RoundClose, SquareOpen, SquareClose, Comma, Minus}
use Rattle.model_program.specs.Lexeme.{Lexeme}
use Rattle.model_program.specs.Syntax.{Name}
use Rattle.model_program.specs.Joined.{◌⌢◌, Nothing, IsOther}
use Rattle.model_program.specs.Grammar.{sign, IsName, Many}
use Rattle.model_grammar.specs.declared.Op1.{Op1}
use Rattle.model_grammar.specs.declared.Op2.{Op2}
use Rattle.model_grammar.specs.Syntax.{Expr, X, named, one, two, literal, Xs, no_x, and_x, Out, child, call, node, Outs, no_out, and_out}
use Rattle.model_grammar.specs.Operators.{op1_word, op2_word}
use Rattle.model_grammar.specs.Expressions.{IsE}

-- An item behind another: a comma and the item, or the item alone, which then doesn't begin with `-`.
abbrev pub IsLater : {A : Type 0} → (A → List Lexeme → Type 0) → A → List Lexeme → Type 0
IsLater form a tokens = (sign Comma ⌢ form a) tokens ⊎ (form a tokens × IsOther Minus tokens)

-- nothing, or items of a label
abbrev pub Row : {A : Type 0} → (A → List Lexeme → Type 0) → List A → List Lexeme → Type 0
Row form [] = Nothing
Row form (first ∷ later) = form first ⌢ Many (IsLater form) later

-- Labels ::= [ ] | [ E (,? E)* ]
abbrev pub AreLabels : List Expr → List Lexeme → Type 0
AreLabels labels = sign SquareOpen ⌢ Row IsE labels ⌢ sign SquareClose

mutual
  pub data IsX : X → List Lexeme → Type 0 where
    -- X ::= ID
    name : (n : Name) (tokens : List Lexeme) → IsName n tokens → IsX (named n) tokens
    -- | ( Op1 X )
    on_one : (left op right : Lexeme) (kind : Op1) (x : X) (inside : List Lexeme) → left.word ≡ RoundOpen → op.word ≡ op1_word kind → right.word ≡ RoundClose → IsX x inside → IsX (one kind op.place x) (left ∷ op ∷ inside ++ right ∷ [])
    -- | ( Op2 X X )
    on_two : (left op right : Lexeme) (kind : Op2) (x y : X) (front back : List Lexeme) → left.word ≡ RoundOpen → op.word ≡ op2_word kind → right.word ≡ RoundClose → IsX x front → IsX y back → IsX (two kind op.place x y) (left ∷ op ∷ front ++ (back ++ right ∷ []))
    -- | ( ID Labels X* )
    new : (left right : Lexeme) (n : Name) (labels : List Expr) (xs : Xs) (head row children : List Lexeme) → left.word ≡ RoundOpen → right.word ≡ RoundClose → IsName n head → AreLabels labels row → AreXs xs children → IsX (literal n labels xs) (left ∷ head ++ (row ++ (children ++ right ∷ [])))

  -- X*
  pub data AreXs : Xs → List Lexeme → Type 0 where
    no_more : AreXs no_x []
    one_more : (x : X) (xs : Xs) (front back : List Lexeme) → IsX x front → AreXs xs back → AreXs (and_x x xs) (front ++ back)

mutual
  pub data IsOut : Out → List Lexeme → Type 0 where
    -- Out ::= ID
    unchanged : (n : Name) (tokens : List Lexeme) → IsName n tokens → IsOut (child n) tokens
    -- | ( ID ID )
    called : (left right : Lexeme) (q y : Name) (head argument : List Lexeme) → left.word ≡ RoundOpen → right.word ≡ RoundClose → IsName q head → IsName y argument → IsOut (call q y) (left ∷ head ++ (argument ++ right ∷ []))
    -- | ( ID Labels Out* )
    made : (left right : Lexeme) (n : Name) (labels : List Expr) (outs : Outs) (head row children : List Lexeme) → left.word ≡ RoundOpen → right.word ≡ RoundClose → IsName n head → AreLabels labels row → AreOuts outs children → IsOut (node n labels outs) (left ∷ head ++ (row ++ (children ++ right ∷ [])))

  -- Out*
  pub data AreOuts : Outs → List Lexeme → Type 0 where
    no_outs : AreOuts no_out []
    outs_on : (out : Out) (outs : Outs) (front back : List Lexeme) → IsOut out front → AreOuts outs back → AreOuts (and_out out outs) (front ++ back)
