-- The parts of a cut as a list.
use Rattle.std.proofs.Common.{ℕ, zero, suc, ◌<◌, ◌≤◌, length, drop, arith, ◌≡◌, List, [], ◌∷◌, map, Vec, Global, refl, ap, ◌∙◌}
use Rattle.std.proofs.Math.Seq.{drop-nil}
use Rattle.std.specs.declared.cmp.Ordering.{Ordering}
use Rattle.std.specs.declared.cmp.Ordering.TheVariants.{Less}
use Rattle.model_tree.specs.TreeOrder.{trees_cmp}
use Rattle.model_tree.specs.TreeCode.{trees_of-list_of}
use Rattle.model_tree.specs.Tree.{Tree, tree, trees_of}
use Rattle.model_tree.proofs.Trees.{list_of-trees_of}
use Rattle.model_sttr.specs.Cuts.{tree_of, trees_of_cuts}
use Rattle.model_sta.proofs.TreeOrder.{tree_antisymm}
use Rattle.fast_cut.specs.Cuts.{plain_cut, plain_cuts}
use Rattle.fast_cut.specs.declared.Cut.{Cut, Row_of-Cut, end_of-Cut, more_of-Cut, items-the_row-Cut, items_hidden-the_row-Cut-0}
use Rattle.fast_cut.specs.declared.Cut.TheBlock.{hidden-the_row-Cut-0}

module _ {V : Type 0} where
  -- the tree that a cut stands for
  abbrev pub cut_tree : Cut V → Tree V
  cut_tree x = tree_of (plain_cut x)

  trees_items : {n : _} (ps : Row_of-Cut V n) → trees_of_cuts (plain_cuts ps) ≡ trees_of (map cut_tree (items-the_row-Cut V _ ps))
  trees_items end_of-Cut = refl
  trees_items (more_of-Cut p ps) = ap (tree (cut_tree p)) (trees_items ps)

  pub part_trees : (v : Vec (Cut V) Global) → trees_of_cuts (plain_cuts (hidden-the_row-Cut-0 V v)) ≡ trees_of (map cut_tree v.items)
  part_trees v = trees_items (hidden-the_row-Cut-0 V v) ∙ ap (λ ps. trees_of (map cut_tree ps)) (items_hidden-the_row-Cut-0 V v)

module _ {X Y V : Type 0} (f : X → Tree V) (g : Y → Tree V) (R : V → V → Ordering) where
  -- of two lists, the one that ends first is earlier
  pub both_mapped_shorter : (i : ℕ) (ts : List X) (us : List Y) → length ts ≤ i → i < length us → trees_cmp R (trees_of (map f (drop i ts))) (trees_of (map g (drop i us))) ≡ Less
  both_mapped_shorter i ts [] s h = absurd (omega arith)
  both_mapped_shorter zero [] (u ∷ us) s h = refl
  both_mapped_shorter (suc i) [] (u ∷ us) s h = rw drop-nil at (both_mapped_shorter i [] us (omega arith) (omega arith))
  both_mapped_shorter zero (t ∷ ts) (u ∷ us) s h = absurd (omega arith)
  both_mapped_shorter (suc i) (t ∷ ts) (u ∷ us) s h = both_mapped_shorter i ts us (omega arith) (omega arith)

module _ {X V : Type 0} (f : X → Tree V) (R : V → V → Ordering) where
  pub mapped_shorter : (i : ℕ) (ts : List X) (us : List (Tree V)) → length ts ≤ i → i < length us → trees_cmp R (trees_of (map f (drop i ts))) (trees_of (drop i us)) ≡ Less
  mapped_shorter i ts [] s h = absurd (omega arith)
  mapped_shorter zero [] (u ∷ us) s h = refl
  mapped_shorter (suc i) [] (u ∷ us) s h = rw drop-nil at (mapped_shorter i [] us (omega arith) (omega arith))
  mapped_shorter zero (t ∷ ts) (u ∷ us) s h = absurd (omega arith)
  mapped_shorter (suc i) (t ∷ ts) (u ∷ us) s h = mapped_shorter i ts us (omega arith) (omega arith)

pub ruleset on_parts = (part_trees, list_of-trees_of)

pub ruleset on_orders = (part_trees, list_of-trees_of, mapped_shorter, trees_of-list_of)

pub ruleset on_both = (part_trees, list_of-trees_of, both_mapped_shorter, trees_of-list_of, tree_antisymm)
