-- Trees that were printed for items.
use Rattle.std.specs.Prelude.{◌≡◌, ℕ, true, List, Option, Some, Contains, cond, is_some}
use Rattle.std.specs.Option.{option_map}
use Rattle.std.specs.Str.{bytes_eq}
use Rattle.indexmap.specs.IndexMap.{get}
use Rattle.model_tree.specs.Tree.{Tree, LabelTree, relabel}
use Rattle.model_tree.specs.Signature.{HasType}
use Rattle.fast_tree.specs.Entries.{label_meaning}
use Rattle.fast_tree.specs.declared.label.Label.{Label}
use Rattle.model_grammar.specs.Syntax.{TreeItem, tree, Item}
use Rattle.model_names.specs.Declared.{same_text}
use Rattle.model_meaning.specs.Types.{input_of}
use Rattle.model_meaning.specs.Values.{Printed, printed_at}
use Rattle.fast_eval.specs.Found.{IsInLimits}
use Rattle.tree_values.specs.declared.trees.Trees.{Trees}

-- the tree that a value is
abbrev pub meant : Tree Label → LabelTree
meant t = relabel label_meaning t

-- the tree that was printed under a name
abbrev pub tree_at : Trees → List ℕ → Option LabelTree
tree_at ts name = option_map meant (get bytes_eq ts.kept name)

-- the name has the tree, and each other name has what it had
abbrev pub Adds : Trees → Trees → List ℕ → LabelTree → Type 0
Adds old new name t = (other : List ℕ) → tree_at new other ≡ cond (same_text name other) (Some t) (tree_at old other)

abbrev pub Keeps : Trees → Trees → Type 0
Keeps old new = (other : List ℕ) → tree_at new other ≡ tree_at old other

-- the trees are those that were printed
abbrev pub Tells : Trees → List Printed → Type 0
Tells ts printed = (name : List ℕ) → tree_at ts name ≡ printed_at printed name

-- each tree has the type of its item, and may be shown
abbrev pub AreTypedTrees : List Item → Trees → Type 0
AreTypedTrees items ts = (name : List ℕ) (t : LabelTree) → tree_at ts name ≡ Some t → HasType (input_of items name) t × IsInLimits t

-- each tree among these items has one
abbrev pub ArePrinted : Trees → List Item → Type 0
ArePrinted ts before = (item : Item) (t : TreeItem) → Contains before item → item.body ≡ tree t → is_some (tree_at ts t.name.text) ≡ true
