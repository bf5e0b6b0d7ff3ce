-- Facts on trees.
use Rattle.std.proofs.Common.{◌≡◌, ℕ, zero, suc, ◌+◌, ◌≤◌, ◌<◌, List, [], ◌∷◌, map, drop, length, get_or, All, refl, ap, sym, ◌∙◌, arith}
use Rattle.std.specs.declared.cmp.Ordering.{Ordering}
use Rattle.std.specs.declared.cmp.Ordering.TheVariants.{Less}
use Rattle.model_tree.specs.TreeOrder.{trees_cmp}
use Rattle.std.proofs.Math.Seq.{drop-nil}
use Rattle.std.specs.List.{sum_by}
use Rattle.std.proofs.lemmas.List.Sums.{sum_by-cons}
use Rattle.std.proofs.lemmas.List.Elements.{All-nil, All-cons}
use Rattle.model_tree.specs.TreeCode.{trees_of-list_of}
use Rattle.model_tree.specs.Tree.{constructor_of, label_of, children_of, EveryLabel, EveryLabelOfAll, Tree, node, Trees, no_trees, tree, list_of, trees_of, node_count, node_count_all, depth, depth_all, relabel, relabel_all}

module _ {A : Type 0} where
  pub one-le-node_count : (t : Tree A) → 1 ≤ node_count t
  one-le-node_count (node c l ts) = omega arith

  pub one-le-depth : (t : Tree A) → 1 ≤ depth t
  one-le-depth (node c l ts) = omega arith

  pub list_of-trees_of : (ts : List (Tree A)) → list_of (trees_of ts) ≡ ts
  list_of-trees_of [] = refl
  list_of-trees_of (t ∷ ts) = ap (λ us. t ∷ us) (list_of-trees_of ts)

  -- the same by a list's words
  pub node_count_all-sum_by : (ts : Trees A) → node_count_all ts ≡ sum_by node_count (list_of ts)
  node_count_all-sum_by no_trees = refl
  node_count_all-sum_by (tree t ts) = rw (sum_by-cons node_count t (list_of ts)) (ap (λ n. node_count t + n) (node_count_all-sum_by ts))

  -- an induction over both types at once
  mutual
    pub depth-le-node_count : (t : Tree A) → depth t ≤ node_count t
    depth-le-node_count (node c l ts) = omega (arith, depth_all-le ts)

    pub depth_all-le : (ts : Trees A) → depth_all ts ≤ node_count_all ts
    depth_all-le no_trees = omega arith
    depth_all-le (tree t ts) = omega (arith, depth-le-node_count t, depth_all-le ts)

module _ {A B : Type 0} (f : A → B) where
  mutual
    pub node_count-relabel : (t : Tree A) → node_count (relabel f t) ≡ node_count t
    node_count-relabel (node c l ts) = omega (arith, node_count_all-relabel_all ts)

    pub node_count_all-relabel_all : (ts : Trees A) → node_count_all (relabel_all f ts) ≡ node_count_all ts
    node_count_all-relabel_all no_trees = refl
    node_count_all-relabel_all (tree t ts) = omega (arith, node_count-relabel t, node_count_all-relabel_all ts)

  pub list_of-relabel_all : (ts : Trees A) → list_of (relabel_all f ts) ≡ map (relabel f) (list_of ts)
  list_of-relabel_all no_trees = refl
  list_of-relabel_all (tree t ts) = ap (λ us. relabel f t ∷ us) (list_of-relabel_all ts)

-- what a body that goes over a tree's children cites
pub ruleset on_trees = (one-le-node_count, one-le-depth, list_of-trees_of)

module _ {A : Type 0} (R : A → A → Ordering) where
  -- of two lists, the one that ends first is earlier
  pub trees_cmp_shorter : (i : ℕ) (ts us : List (Tree A)) → length ts ≤ i → i < length us → trees_cmp R (trees_of (drop i ts)) (trees_of (drop i us)) ≡ Less
  trees_cmp_shorter i ts [] s h = absurd (omega arith)
  trees_cmp_shorter zero [] (u ∷ us) s h = refl
  trees_cmp_shorter (suc i) [] (u ∷ us) s h = rw drop-nil at (trees_cmp_shorter i [] us (omega arith) (omega arith))
  trees_cmp_shorter zero (t ∷ ts) (u ∷ us) s h = absurd (omega arith)
  trees_cmp_shorter (suc i) (t ∷ ts) (u ∷ us) s h = trees_cmp_shorter i ts us (omega arith) (omega arith)

module _ {A B : Type 0} (f : A → B) where
  pub label_of_relabel : (t : Tree A) → label_of (relabel f t) ≡ f (label_of t)
  label_of_relabel (node c l ts) = refl

  pub children_of_relabel : (t : Tree A) → children_of (relabel f t) ≡ relabel_all f (children_of t)
  children_of_relabel (node c l ts) = refl

module _ {A : Type 0} where
  pub depth_of_children : (t : Tree A) → suc (depth_all (trees_of (list_of (children_of t)))) ≡ depth t
  depth_of_children (node c l ts) = ap (λ us. suc (depth_all us)) (trees_of-list_of ts)

  pub depth_of_child : (ts : List (Tree A)) (k : ℕ) (d : Tree A) → k < length ts → depth (get_or ts k d) ≤ depth_all (trees_of ts)
  depth_of_child [] k d h = absurd (omega arith)
  depth_of_child (t ∷ ts) zero d h = omega arith
  depth_of_child (t ∷ ts) (suc k) d h = omega (arith, depth_of_child ts k d (omega arith))

module _ {A : Type 0} (P : A → Type 0) where
  pub EveryLabel_root : (t : Tree A) → EveryLabel P t → P (label_of t)
  EveryLabel_root (node c l ts) h = h.0

  below : (ts : Trees A) → EveryLabelOfAll P ts → All (EveryLabel P) (list_of ts)
  below no_trees h = All-nil (EveryLabel P)
  below (tree t ts) h = All-cons (EveryLabel P) t (list_of ts) h.0 (below ts h.1)

  pub EveryLabel_children : (t : Tree A) → EveryLabel P t → All (EveryLabel P) (list_of (children_of t))
  EveryLabel_children (node c l ts) h = below ts h.1

module _ {A B : Type 0} (f : A → B) where
  pub relabel_all_of_list : (ts : List (Tree A)) → relabel_all f (trees_of ts) ≡ trees_of (map (relabel f) ts)
  relabel_all_of_list [] = refl
  relabel_all_of_list (t ∷ ts) = ap (tree (relabel f t)) (relabel_all_of_list ts)

  pub relabel_parts : (t : Tree A) → relabel f t ≡ node (constructor_of t) (f (label_of t)) (trees_of (map (relabel f) (list_of (children_of t))))
  relabel_parts (node c l ts) = ap (node c (f l)) (ap (relabel_all f) (sym (trees_of-list_of ts)) ∙ relabel_all_of_list (list_of ts))

  -- a tree that is made of relabelled parts of another
  pub rebuilt : (t u : Tree A) (c : ℕ) (l : A) (ts : List (Tree A)) → u ≡ node c l (trees_of ts) → c ≡ constructor_of t → f l ≡ f (label_of t) → map (relabel f) ts ≡ map (relabel f) (list_of (children_of t)) → relabel f u ≡ relabel f t
  rebuilt t u c l ts e ec el em = ap (relabel f) e ∙ (λ i. node (ec i) (el i) ((relabel_all_of_list ts ∙ ap trees_of em) i)) ∙ sym (relabel_parts t)

module _ {A B C : Type 0} (g : B → C) (f : A → B) where
  mutual
    -- two relabellings are one
    pub relabel_twice : (t : Tree A) → relabel g (relabel f t) ≡ relabel (λ a. g (f a)) t
    relabel_twice (node c l ts) = ap (node c (g (f l))) (relabel_all_twice ts)

    pub relabel_all_twice : (ts : Trees A) → relabel_all g (relabel_all f ts) ≡ relabel_all (λ a. g (f a)) ts
    relabel_all_twice no_trees = refl
    relabel_all_twice (tree t ts) = λ i. tree (relabel_twice t i) (relabel_all_twice ts i)
