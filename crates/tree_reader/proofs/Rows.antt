-- The plain form of a tree is that of its children.
use Rattle.std.proofs.Common.{◌≡◌, map, refl, ap, ◌∙◌, Vec, Global}
use mathlib.Core.Former.{Count}
use Rattle.fast_fault.specs.declared.place.Pos.{Pos}
use Rattle.fast_syntax.specs.declared.Name.{Name}
use Rattle.fast_syntax.specs.View.{plain_name}
use Rattle.tree_reader.specs.declared.Constant.{Constant}
use Rattle.tree_reader.specs.declared.FileTree.{FileTree, FileTree', Row_of-FileTree, end_of-FileTree, more_of-FileTree, items-the_row-FileTree, items_hidden-the_row-FileTree-0}
use Rattle.tree_reader.specs.declared.FileTree.TheViews.{roll-FileTree}
use Rattle.tree_reader.specs.Plain.{plain_constant, plain_tree, plain_trees}
use Rattle.model_grammar.specs.TreeFiles.{node, and_tree, trees_of}

trees_is : (n : _) (row : Row_of-FileTree n) → plain_trees row ≡ trees_of (map plain_tree (items-the_row-FileTree n row))
trees_is n end_of-FileTree = refl
trees_is n (more_of-FileTree t rest) = ap (λ l. and_tree (plain_tree t) l) (trees_is _ rest)

abbrev tree_row : FileTree → (n : Count) × Row_of-FileTree n
tree_row (FileTree' _ _ _ _ row) = (_, row)

pub plain_node : (place : Pos) (n : Name) (labels : Vec Constant Global) (children : Vec FileTree Global) → plain_tree (roll-FileTree (record { place = place; name = n; labels = labels; children = children })) ≡ node place (plain_name n) (map plain_constant labels.items) (trees_of (map plain_tree children.items))
unfolding Rattle.tree_reader.specs.declared.FileTree.TheBlock.hidden-the_row-FileTree-0 roll-FileTree denote.Hole.Carrier.roll
plain_node place n labels children = let row = tree_row (roll-FileTree (record { place = place; name = n; labels = labels; children = children })) in ap (λ l. node place (plain_name n) (map plain_constant labels.items) l) (trees_is row.0 row.1 ∙ ap (λ l. trees_of (map plain_tree l)) (items_hidden-the_row-FileTree-0 children))
