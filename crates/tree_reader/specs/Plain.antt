-- The trees of the code as plain data.
use Rattle.std.specs.Prelude.{map}
use Rattle.fast_fault.specs.declared.place.Pos.{Pos}
use Rattle.fast_syntax.specs.View.{plain_name}
use Rattle.model_grammar.specs.Syntax.{Expr, number, text, truth}
use Rattle.model_grammar.specs.TreeFiles as plain
use Rattle.model_grammar.specs.TreeFiles.{node, no_trees, and_tree}
use Rattle.tree_reader.specs.declared.Constant.{Constant}
use Rattle.tree_reader.specs.declared.Value.{Value}
use Rattle.tree_reader.specs.declared.Value.TheVariants.{Number, Text, Truth}
use Rattle.tree_reader.specs.declared.FileTree.{FileTree, FileTree', Row_of-FileTree, end_of-FileTree, more_of-FileTree}

abbrev pub plain_value : Value → Pos → Expr
plain_value (Number n) p = number p n
plain_value (Text t) p = text p t
plain_value (Truth b) p = truth p b

abbrev pub plain_constant : Constant → Expr
plain_constant c = plain_value c.value c.place

abbrev mutual
  pub plain_tree : FileTree → plain.FileTree
  plain_tree (FileTree' p n labels shape row) = node p (plain_name n) (map plain_constant labels.items) (plain_trees row)

  pub plain_trees : {m : _} → Row_of-FileTree m → plain.FileTrees
  plain_trees end_of-FileTree = no_trees
  plain_trees (more_of-FileTree t rest) = and_tree (plain_tree t) (plain_trees rest)
