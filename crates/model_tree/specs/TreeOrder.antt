-- The order of trees: by the constructor's number, then the label, then the children from the left.
use Rattle.std.specs.declared.cmp.Ordering.{Ordering}
use Rattle.std.specs.declared.cmp.Ordering.TheVariants.{Less, Equal, Greater}
use Rattle.std.specs.Ordering.{ordering_then, nat_cmp}
use Rattle.model_tree.specs.Tree.{Tree, node, Trees, no_trees, tree}

module _ {A : Type 0} (R : A → A → Ordering) where
  abbrev mutual
    pub tree_cmp : Tree A → Tree A → Ordering
    tree_cmp (node c l ts) (node d m us) = ordering_then (ordering_then (nat_cmp c d) (R l m)) (trees_cmp ts us)

    -- of two lists of which one begins the other, the shorter is first
    pub trees_cmp : Trees A → Trees A → Ordering
    trees_cmp no_trees no_trees = Equal
    trees_cmp no_trees (tree u us) = Less
    trees_cmp (tree t ts) no_trees = Greater
    trees_cmp (tree t ts) (tree u us) = ordering_then (tree_cmp t u) (trees_cmp ts us)
