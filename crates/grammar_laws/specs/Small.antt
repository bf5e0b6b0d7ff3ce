-- Small lists of tokens and what they spell.
use Rattle.std.specs.Prelude.{ℕ, pos, negsuc, true, false, List, [], ◌∷◌, codes}
use Rattle.model_program.specs.declared.Word.{Word}
use Rattle.model_program.specs.declared.Word.TheVariants.{Id, Number, True, RoundOpen, RoundClose, SquareOpen, SquareClose, Comma, Minus}
use Rattle.model_program.specs.Lexeme.{Lexeme}
use Rattle.model_grammar.specs.declared.Chain.TheVariants.{Sum}
use Rattle.model_grammar.specs.Syntax.{Expr, field, number, truth, chain, part, no_parts}
use Rattle.model_grammar.specs.Examples.{column}
use Rattle.model_grammar.specs.TreeFiles.{FileTree, node, no_trees}

abbrev pub at : ℕ → Word → List ℕ → Lexeme
at n w text = record { word = w; text = text; start = n; place = column n }

-- [ x - 5 ]
abbrev pub sum_tokens : List Lexeme
sum_tokens = at 1 SquareOpen (codes "[") ∷ at 2 Id (codes "x") ∷ at 4 Minus (codes "-") ∷ at 6 Number (codes "5") ∷ at 7 SquareClose (codes "]") ∷ []

abbrev pub sum_labels : List Expr
sum_labels = chain Sum (column 4) (part false (field (column 2) (codes "x")) (part true (number (column 6) (pos 5)) no_parts)) ∷ []

-- [ x , - 5 ]
abbrev pub two_tokens : List Lexeme
two_tokens = at 1 SquareOpen (codes "[") ∷ at 2 Id (codes "x") ∷ at 3 Comma (codes ",") ∷ at 5 Minus (codes "-") ∷ at 6 Number (codes "5") ∷ at 7 SquareClose (codes "]") ∷ []

abbrev pub two_labels : List Expr
two_labels = field (column 2) (codes "x") ∷ number (column 5) (negsuc 4) ∷ []

-- ( nil [ - 7 , true ] )
abbrev pub file_tokens : List Lexeme
file_tokens = at 1 RoundOpen (codes "(") ∷ at 2 Id (codes "nil") ∷ at 6 SquareOpen (codes "[") ∷ at 7 Minus (codes "-") ∷ at 8 Number (codes "7") ∷ at 9 Comma (codes ",") ∷ at 11 True (codes "true") ∷ at 15 SquareClose (codes "]") ∷ at 16 RoundClose (codes ")") ∷ []

abbrev pub file_trees : List FileTree
file_trees = node (column 1) (record { text = codes "nil"; place = column 2 }) (number (column 7) (negsuc 6) ∷ truth (column 11) true ∷ []) no_trees ∷ []
