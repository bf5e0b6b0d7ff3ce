-- A tree's text that reads as the tree.
use Rattle.std.specs.Prelude.{◌≡◌, ◌<◌, ℕ, List, [], ◌∷◌, map, length, get_or, All}
use Rattle.model_tree.specs.Label.{Field, whole, truth, text, Label}
use Rattle.model_tree.specs.Tree as model
use Rattle.model_tree.specs.Tree.{LabelTree}
use Rattle.model_tree.specs.Printed.{fields_of}
use Rattle.model_program.specs.declared.Word.TheVariants.{Id}
use Rattle.model_program.specs.Lexeme.{Lexeme}
use Rattle.model_program.specs.Cuts.{AreTokens}
use Rattle.model_program.specs.TokenTexts.{IsTextOf}
use Rattle.model_grammar.specs.Syntax.{Expr}
use Rattle.model_grammar.specs.Syntax as syntax
use Rattle.model_grammar.specs.Places.{nowhere, bare_name, bare}
use Rattle.model_grammar.specs.TreeFiles.{FileTree, node, FileTrees, no_trees, and_tree, IsTreeFile}

abbrev mutual
  -- a tree of a file, places aside
  pub bare_file : FileTree → FileTree
  bare_file (node p n labels trees) = node nowhere (bare_name n) (map bare labels) (bare_files trees)

  pub bare_files : FileTrees → FileTrees
  bare_files no_trees = no_trees
  bare_files (and_tree t ts) = and_tree (bare_file t) (bare_files ts)

-- the constant that a value is
abbrev pub constant_of : Field → Expr
constant_of (whole n) = syntax.number nowhere n
constant_of (truth b) = syntax.truth nowhere b
constant_of (text t) = syntax.text nowhere t

module _ (names : List (List ℕ)) where
  abbrev mutual
    -- the tree as a file has it: its constructors by their names, its values as constants
    pub file_tree : LabelTree → FileTree
    file_tree (model.node c l ts) = node nowhere (record { text = get_or names c []; place = nowhere }) (map constant_of (fields_of l)) (file_trees ts)

    pub file_trees : model.Trees Label → FileTrees
    file_trees model.no_trees = no_trees
    file_trees (model.tree t ts) = and_tree (file_tree t) (file_trees ts)

  abbrev mutual
    -- each constructor has a name
    pub HasNames : LabelTree → Type 0
    HasNames (model.node c l ts) = (c < length names) × EachHasNames ts

    pub EachHasNames : model.Trees Label → Type 0
    EachHasNames model.no_trees = Unit {0}
    EachHasNames (model.tree t ts) = HasNames t × EachHasNames ts

-- names that are no keywords
abbrev pub AreNames : List (List ℕ) → Type 0
AreNames names = All (IsTextOf Id) names

-- The text is made of tokens, and these spell the tree, places aside.
pub record ReadsAsTree (names : List (List ℕ)) (t : LabelTree) (cs : List ℕ) : Type 0 where
  pub tokens : List Lexeme
  pub are : AreTokens cs tokens
  pub again : FileTree
  pub spelled : IsTreeFile (again ∷ []) tokens
  pub same : bare_file again ≡ file_tree names t
