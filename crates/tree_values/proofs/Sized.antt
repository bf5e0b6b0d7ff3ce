-- How large trees are, and what is held of them where there is room.
use Rattle.std.proofs.Common.{◌≡◌, ◌+◌, ℕ, suc, true, ◌&&◌, List, [], ◌∷◌, ◌++◌, Option, Some, None, map, refl, sym, ap, ap₂, subst, ◌∙◌, arith}
use Rattle.std.proofs.lemmas.Bool.{and_parts}
use Rattle.std.specs.Prelude.{max}
use Rattle.std.proofs.lemmas.List.{map-append}
use Rattle.model_tree.specs.Tree.{Tree, Trees, node, no_trees, tree, trees_of, LabelTree, node_count, node_count_all, depth, depth_all, relabel, relabel_all}
use Rattle.model_tree.specs.Kept.{is_kept, are_kept}
use Rattle.model_tree.specs.Signature.{PlainSignature, HasType, EachHasType}
use Rattle.model_tree.proofs.Trees.{node_count-relabel}
use Rattle.fast_tree.specs.Entries.{label_meaning}
use Rattle.fast_tree.specs.declared.label.Label as code
use Rattle.tree_values.specs.Trees.{meant}
use Rattle.tree_values.specs.Values.{IsHeld, AreHeld, left_of, IsJoined}
use Rattle.tree_values.specs.declared.sizes.Measured.{Measured}
use Rattle.tree_values.specs.declared.sizes.Below.{Below}

-- ---- relabelled trees

module _ {A B : Type 0} (f : A → B) where
  mutual
    depth_relabel : (t : Tree A) → depth (relabel f t) ≡ depth t
    depth_relabel (node c l ts) = ap suc (depth_all_relabel ts)

    depth_all_relabel : (ts : Trees A) → depth_all (relabel_all f ts) ≡ depth_all ts
    depth_all_relabel no_trees = refl
    depth_all_relabel (tree t ts) = ap₂ max (depth_relabel t) (depth_all_relabel ts)

pub nodes_meant : (t : Tree code.Label) → node_count (meant t) ≡ node_count t
nodes_meant = node_count-relabel label_meaning

pub depth_meant : (t : Tree code.Label) → depth (meant t) ≡ depth t
depth_meant = depth_relabel label_meaning

pub ruleset on_meant = (nodes_meant, depth_meant)

-- ---- one more tree at the end

module _ {A : Type 0} where
  nodes_one_more : (ts : List (Tree A)) (t : Tree A) → node_count_all (trees_of (ts ++ t ∷ [])) ≡ node_count_all (trees_of ts) + node_count t
  nodes_one_more [] t = omega arith
  nodes_one_more (s ∷ ts) t = omega (arith, nodes_one_more ts t)

  depth_one_more : (ts : List (Tree A)) (t : Tree A) → depth_all (trees_of (ts ++ t ∷ [])) ≡ max (depth_all (trees_of ts)) (depth t)
  depth_one_more [] t = omega arith
  depth_one_more (s ∷ ts) t = omega (arith, depth_one_more ts t)

pub kept_one_more : (ts : List LabelTree) (t : LabelTree) → are_kept (trees_of ts) ≡ true → is_kept t ≡ true → are_kept (trees_of (ts ++ t ∷ [])) ≡ true
kept_one_more [] t all one = ap (λ b. b && true) one
kept_one_more (s ∷ ts) t all one = let both = and_parts (is_kept s) (are_kept (trees_of ts)) all in ap₂ (λ a b. a && b) both.0 (kept_one_more ts t both.1 one)

pub typed_one_more : (s : PlainSignature) (ts : List LabelTree) (t : LabelTree) → EachHasType s (trees_of ts) → HasType s t → EachHasType s (trees_of (ts ++ t ∷ []))
typed_one_more s [] t all one = (one, tt)
typed_one_more s (u ∷ ts) t all one = (all.0, typed_one_more s ts t all.1 one)

-- ---- what is held

pub held_one_more : (room : ℕ) (ts : List LabelTree) (t : LabelTree) (b : Option Below) (v : Option Measured) (c : Option Below) → AreHeld room ts b → IsHeld (left_of room b) t v → IsJoined b v c → AreHeld room (ts ++ t ∷ []) c
held_one_more room ts t None v c below value is = subst (AreHeld room (ts ++ t ∷ [])) (sym is) (omega (arith, below, nodes_one_more ts t))
held_one_more room ts t (Some b) None c below value is = subst (AreHeld room (ts ++ t ∷ [])) (sym is) (omega (arith, below.nodes, below.fits, value, nodes_one_more ts t))
held_one_more room ts t (Some b) (Some v) None below value is = absurd is
held_one_more room ts t (Some b) (Some v) (Some c) below value is = record {
  same = ap (map meant) is.0 ∙ map-append meant b.trees.items (v.tree ∷ []) ∙ ap₂ (λ xs x. xs ++ x ∷ []) below.same value.same;
  nodes = omega (arith, is.1, below.nodes, value.nodes, nodes_one_more ts t);
  levels = omega (arith, is.2, below.levels, value.levels, depth_one_more ts t);
  fits = omega (arith, is.1, below.fits, value.fits);
  shallow = omega (arith, is.2, below.shallow, value.shallow);
}

-- nothing fits where there is no room
pub nothing_held : (ts : List LabelTree) → AreHeld 0 ts None
nothing_held ts = omega arith
