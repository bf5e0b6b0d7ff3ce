-- Cuts by the lists of their parts, and what copies of them mean.
use Rattle.std.proofs.Common.{ℕ, ◌≡◌, ◌+◌, List, [], ◌∷◌, map, length, Vec, Global, refl, sym, ap, ◌∙◌}
use Rattle.std.proofs.lemmas.List.{length-map}
use Rattle.model_tree.specs.Tree.{node_count, node_count_all, depth, depth_all}
use Rattle.model_tree.proofs.Trees.{node_count-relabel, node_count_all-relabel_all}
use Rattle.model_sttr.specs.Cuts.{Cut, new, Cuts, cut, tree_of, trees_of_cuts}
use Rattle.fast_cut.specs.Cuts.{plain_cut, plain_cuts}
use Rattle.fast_cut.specs.declared.Cut.{Cut as Written, Row_of-Cut, end_of-Cut, more_of-Cut, items-the_row-Cut, items_hidden-the_row-Cut-0}
use Rattle.fast_cut.specs.declared.Cut.TheVariants.{Node}
use Rattle.fast_cut.specs.declared.Cut.TheBlock.{hidden-the_row-Cut-0}
use Rattle.fast_cut.specs.declared.CutNode.{CutNode}
use Rattle.apply_laws.specs.Lists.{sum_of}
use Rattle.apply_laws.specs.Meant.{meant, all_meant}
use Rattle.apply_laws.proofs.Copies.{same_meaning, same_meanings}
use Rattle.apply_laws.proofs.Parts.{depth-relabel, depth_all-relabel_all}
use Rattle.sttr_apply.specs.Cuts.{cuts_in}

module _ {V : Type 0} where
  parts_in : {n : _} (ps : Row_of-Cut V n) → plain_cuts ps ≡ cuts_in (map plain_cut (items-the_row-Cut V _ ps))
  parts_in end_of-Cut = refl
  parts_in (more_of-Cut p ps) = ap (cut (plain_cut p)) (parts_in ps)

  pub plain_parts : (v : Vec (Written V) Global) → plain_cuts (hidden-the_row-Cut-0 V v) ≡ cuts_in (map plain_cut v.items)
  plain_parts v = parts_in (hidden-the_row-Cut-0 V v) ∙ ap (λ ps. cuts_in (map plain_cut ps)) (items_hidden-the_row-Cut-0 V v)

  pub plain_node : (x : Written V) (n : CutNode V) → x ≡ Node n → plain_cut x ≡ new n.constructor n.label (cuts_in (map plain_cut n.parts.items))
  plain_node x n e = ap plain_cut e ∙ ap (new n.constructor n.label) (plain_parts n.parts)

module _ {V L : Type 0} (label : V → L) where
  pub meant_in : (xs : List (Cut V)) → all_meant label (cuts_in xs) ≡ cuts_in (map (meant label) xs)
  meant_in [] = refl
  meant_in (x ∷ xs) = ap (cut (meant label x)) (meant_in xs)

  pub meant_parts : (xs ys : List (Cut V)) → map (meant label) xs ≡ map (meant label) ys → all_meant label (cuts_in xs) ≡ all_meant label (cuts_in ys)
  meant_parts xs ys e = meant_in xs ∙ (ap cuts_in e ∙ sym (meant_in ys))

  -- a node with a label and parts that mean the same
  pub copied_node : (x : Written V) (n m : CutNode V) → x ≡ Node n → m.constructor ≡ n.constructor → label m.label ≡ label n.label → map (meant label) (map plain_cut m.parts.items) ≡ map (meant label) (map plain_cut n.parts.items)
      → meant label (plain_cut (Node m)) ≡ meant label (plain_cut x)
  copied_node x n m e k s p =
      ap (meant label) (plain_node (Node m) m refl)
      ∙ (λ i. new (k i) (s i) (meant_parts (map plain_cut m.parts.items) (map plain_cut n.parts.items) p i))
      ∙ sym (ap (meant label) (plain_node x n e))

  pub same_nodes : (x y : Cut V) → meant label x ≡ meant label y → node_count (tree_of x) ≡ node_count (tree_of y)
  same_nodes x y e = sym (node_count-relabel label (tree_of x)) ∙ (ap node_count (same_meaning label x y e) ∙ node_count-relabel label (tree_of y))

  pub same_levels : (x y : Cut V) → meant label x ≡ meant label y → depth (tree_of x) ≡ depth (tree_of y)
  same_levels x y e = sym (depth-relabel label (tree_of x)) ∙ (ap depth (same_meaning label x y e) ∙ depth-relabel label (tree_of y))

  pub same_row_nodes : (x y : Cuts V) → all_meant label x ≡ all_meant label y → node_count_all (trees_of_cuts x) ≡ node_count_all (trees_of_cuts y)
  same_row_nodes x y e = sym (node_count_all-relabel_all label (trees_of_cuts x)) ∙ (ap node_count_all (same_meanings label x y e) ∙ node_count_all-relabel_all label (trees_of_cuts y))

  pub same_row_levels : (x y : Cuts V) → all_meant label x ≡ all_meant label y → depth_all (trees_of_cuts x) ≡ depth_all (trees_of_cuts y)
  same_row_levels x y e = sym (depth_all-relabel_all label (trees_of_cuts x)) ∙ (ap depth_all (same_meanings label x y e) ∙ depth_all-relabel_all label (trees_of_cuts y))

-- ---- lists that f makes the same

module _ {X Y Z : Type 0} (f : X → Z) (g : Y → Z) where
  pub same_length : (xs : List X) (ys : List Y) → map f xs ≡ map g ys → length xs ≡ length ys
  same_length xs ys e = sym (length-map xs f) ∙ (ap length e ∙ length-map ys g)

module _ {X : Type 0} (f : X → ℕ) where
  sum_mapped : (xs : List X) → sum_of f xs ≡ sum_of (λ n. n) (map f xs)
  sum_mapped [] = refl
  sum_mapped (x ∷ xs) = ap (λ n. f x + n) (sum_mapped xs)

  pub same_sum : (xs ys : List X) → map f xs ≡ map f ys → sum_of f xs ≡ sum_of f ys
  same_sum xs ys e = sum_mapped xs ∙ (ap (sum_of (λ n. n)) e ∙ sym (sum_mapped ys))
