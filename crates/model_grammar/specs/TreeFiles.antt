-- The grammar of tree files.
use Rattle.std.specs.Prelude.{◌≡◌, ℕ, pos, true, false, List, [], ◌∷◌, ◌++◌}
use Rattle.std.specs.Str.Parse.{digits_value}
use Rattle.fast_fault.specs.declared.place.Pos.{Pos}
use Rattle.model_program.specs.declared.Word.TheVariants.{True, False, Number, Quoted, RoundOpen, RoundClose, SquareOpen, SquareClose, Minus}
use Rattle.model_program.specs.Lexeme.{Lexeme}
use Rattle.model_program.specs.Syntax.{Name}
use Rattle.model_program.specs.Quotes.{IsQuoted}
use Rattle.model_program.specs.Joined.{◌⌢◌}
use Rattle.model_program.specs.Grammar.{sign, IsName, IsDigits}
use Rattle.model_grammar.specs.Syntax.{Expr, number, text, truth}
use Rattle.model_grammar.specs.Expressions.{negative}
use Rattle.model_grammar.specs.Terms.{Row}

-- A tree of a file, with its labels as constants. Its place is its `(`.
mutual
  pub data FileTree : Type 0 where
    node : Pos → Name → List Expr → FileTrees → FileTree

  pub data FileTrees : Type 0 where
    no_trees : FileTrees
    and_tree : FileTree → FileTrees → FileTrees

abbrev pub trees_of : List FileTree → FileTrees
trees_of [] = no_trees
trees_of (t ∷ ts) = and_tree t (trees_of ts)

-- NUMBER | - NUMBER | STRING | true | false
pub data IsConstant : Expr → List Lexeme → Type 0 where
  a_number : (t : Lexeme) → t.word ≡ Number → IsDigits t.text → IsConstant (number t.place (pos (digits_value 10 t.text))) (t ∷ [])
  a_negative : (sign digits : Lexeme) → sign.word ≡ Minus → digits.word ≡ Number → IsDigits digits.text → IsConstant (number sign.place (negative (digits_value 10 digits.text))) (sign ∷ digits ∷ [])
  a_text : (t : Lexeme) (values : List ℕ) → t.word ≡ Quoted → IsQuoted t.text values → IsConstant (text t.place values) (t ∷ [])
  a_true : (t : Lexeme) → t.word ≡ True → IsConstant (truth t.place true) (t ∷ [])
  a_false : (t : Lexeme) → t.word ≡ False → IsConstant (truth t.place false) (t ∷ [])

-- Labels ::= [ ] | [ E (,? E)* ], where each E is a constant
abbrev pub AreConstants : List Expr → List Lexeme → Type 0
AreConstants labels = sign SquareOpen ⌢ Row IsConstant labels ⌢ sign SquareClose

mutual
  -- Tree ::= ( ID Labels Tree* )
  pub data IsTree : FileTree → List Lexeme → Type 0 where
    a_tree : (left right : Lexeme) (n : Name) (labels : List Expr) (trees : FileTrees) (head row children : List Lexeme) → left.word ≡ RoundOpen → right.word ≡ RoundClose → IsName n head → AreConstants labels row → AreTrees trees children → IsTree (node left.place n labels trees) (left ∷ head ++ (row ++ (children ++ right ∷ [])))

  -- Tree*
  pub data AreTrees : FileTrees → List Lexeme → Type 0 where
    no_more : AreTrees no_trees []
    one_more : (t : FileTree) (ts : FileTrees) (front back : List Lexeme) → IsTree t front → AreTrees ts back → AreTrees (and_tree t ts) (front ++ back)

-- TreeFile ::= Tree*
abbrev pub IsTreeFile : List FileTree → List Lexeme → Type 0
IsTreeFile trees = AreTrees (trees_of trees)
