-- A part before parts, and a node over parts, from what is found of them.
use Rattle.std.proofs.Common.{ℕ, suc, ◌≡◌, ◌<◌, inl, inr, Bool, true, false, List, [], ◌∷◌, length, Option, Some, None, refl, sym, ap, subst, ◌∙◌, ◌↔◌, arith}
use Rattle.std.specs.declared.cmp.Ordering.{Ordering}
use Rattle.std.specs.declared.cmp.Ordering.TheVariants.{Less, Equal}
use Rattle.std.specs.Cmp.{IsTotalOrder}
use Rattle.model_tree.specs.Limits.{most_nodes, greatest_depth, most_outputs}
use Rattle.model_tree.specs.TreeOrder.{tree_cmp, trees_cmp}
use Rattle.model_tree.specs.Tree.{Tree, node, Trees, no_trees, tree, node_count, node_count_all, depth, depth_all, relabel, relabel_all, children_of}
use Rattle.model_tree.proofs.Trees.{node_count-relabel, node_count_all-relabel_all}
use Rattle.model_sta.specs.Loads.{Load, outputs, nodes, depths}
use Rattle.model_sta.proofs.TreeOrder.{same_tree, same_trees}
use Rattle.model_sttr.specs.Cuts.{Cut, Cuts, tree_of, trees_of_cuts}
use Rattle.apply_laws.specs.Lists.{EachTwo, OneOf, sum_of}
use Rattle.apply_laws.specs.Meant.{all_meant}
use Rattle.apply_laws.specs.Listing.{Both, BothTrees, NodeOver, MadeOver, has_some, products, ListsCuts, ListsRows}
use Rattle.apply_laws.specs.Found.{Passes, Found, too_much, listed, IsFound, AreFound, found_some, StillTooMuch, IsProductOf, IsProduct, IsFarNode, IsNodeFound}
use Rattle.apply_laws.proofs.Listed.{alike, dead, alive, none, each_weaker, each_two_weaker}
use Rattle.apply_laws.proofs.Products.{product, length_products, nodes as nodes_over, far_node, no_node}
use Rattle.apply_laws.proofs.Passing.{passes_alike, some_passes, passes_first, passes_rest, passes_node, shows_outputs, shows_nodes, shows_deep}
use Rattle.apply_laws.proofs.Copies.{copied_rows}

module _ {A B : Type 0} (f : A → B) where
  mutual
    pub depth-relabel : (t : Tree A) → depth (relabel f t) ≡ depth t
    depth-relabel (node c l ts) = ap suc (depth_all-relabel_all ts)

    pub depth_all-relabel_all : (ts : Trees A) → depth_all (relabel_all f ts) ≡ depth_all ts
    depth_all-relabel_all no_trees = refl
    depth_all-relabel_all (tree t ts) = omega (arith, depth-relabel t, depth_all-relabel_all ts)

module _ {X : Type 0} (f g : X → ℕ) (same : (x : X) → f x ≡ g x) where
  pub sum_alike : (xs : List X) → sum_of f xs ≡ sum_of g xs
  sum_alike [] = refl
  sum_alike (x ∷ xs) = omega (arith, same x, sum_alike xs)

  pub one_alike : (xs : List X) → OneOf (λ x. greatest_depth < f x) xs → OneOf (λ x. greatest_depth < g x) xs
  one_alike [] o = o
  one_alike (x ∷ xs) (inl l) = inl (omega (arith, l, same x))
  one_alike (x ∷ xs) (inr o) = inr (one_alike xs o)

module _ {V L N : Type 0} (label : V → L) (order : V → V → Ordering) (keeps : L → Bool) (Outside : L → N → Type 0) (total : IsTotalOrder order) (same : (v w : V) → (order v w ≡ Equal) ↔ (label v ≡ label w)) where
  -- the same in other words
  pub found_alike : (C D : Cut V → Type 0) (R S : Tree L → Type 0) → ((x : Cut V) → C x → D x) → ((u : Tree L) → R u ↔ S u) → (found : Found (Cut V) N) → IsFound label order keeps Outside C R found → IsFound label order keeps Outside D S found
  found_alike C D R S c f (too_much a) h = passes_alike node_count depth R S (λ u. (f u).0) a h
  found_alike C D R S c f (listed xs far) h = alike _ _ _ _ C D R S c f xs far h

  pub are_found_alike : (C D : Cuts V → Type 0) (R S : Trees L → Type 0) → ((x : Cuts V) → C x → D x) → ((u : Trees L) → R u ↔ S u) → (found : Found (Cuts V) N) → AreFound label order keeps Outside C R found → AreFound label order keeps Outside D S found
  are_found_alike C D R S c f (too_much a) h = passes_alike node_count_all depth_all R S (λ u. (f u).0) a h
  are_found_alike C D R S c f (listed xs far) h = alike _ _ _ _ C D R S c f xs far h

  pub cuts_apart : (x y : Cut V) → tree_cmp order (tree_of x) (tree_of y) ≡ Less → ¬ (relabel label (tree_of x) ≡ relabel label (tree_of y))
  cuts_apart x y e f = let no : Less ≡ Equal = sym e ∙ same_tree order total label same (tree_of x) (tree_of y) f in cc

  rows_apart : (x y : Cuts V) → trees_cmp order (trees_of_cuts x) (trees_of_cuts y) ≡ Less → ¬ (relabel_all label (trees_of_cuts x) ≡ relabel_all label (trees_of_cuts y))
  rows_apart x y e f = let no : Less ≡ Equal = sym e ∙ same_trees order total label same (trees_of_cuts x) (trees_of_cuts y) f in cc

  -- ---- too much of a list

  module _ (C : Cut V → Type 0) (R : Tree L → Type 0) (xs : List (Cut V)) (far : Option N) (h : ListsCuts label order keeps Outside C R xs far) where
    apart : EachTwo (λ x y. ¬ (relabel label (tree_of x) ≡ relabel label (tree_of y))) xs
    apart = each_two_weaker _ _ cuts_apart xs h.ascending

    pub listed_outputs : most_outputs < length xs → Passes node_count depth outputs R
    listed_outputs l = shows_outputs (λ x. relabel label (tree_of x)) node_count depth R xs h.are apart l

    pub listed_nodes : most_nodes < sum_of (λ x. node_count (tree_of x)) xs → Passes node_count depth nodes R
    listed_nodes l = shows_nodes (λ x. relabel label (tree_of x)) node_count depth R xs h.are apart
        (subst (λ n. most_nodes < n) (sym (sum_alike (λ x. node_count (relabel label (tree_of x))) (λ x. node_count (tree_of x)) (λ x. node_count-relabel label (tree_of x)) xs)) l)

  module _ (C : Cuts V → Type 0) (R : Trees L → Type 0) (xs : List (Cuts V)) (far : Option N) (h : ListsRows label order keeps Outside C R xs far) where
    apart_rows : EachTwo (λ x y. ¬ (relabel_all label (trees_of_cuts x) ≡ relabel_all label (trees_of_cuts y))) xs
    apart_rows = each_two_weaker _ _ rows_apart xs h.ascending

    rows_outputs : most_outputs < length xs → Passes node_count_all depth_all outputs R
    rows_outputs l = shows_outputs (λ x. relabel_all label (trees_of_cuts x)) node_count_all depth_all R xs h.are apart_rows l

    rows_nodes : most_nodes < sum_of (λ x. node_count_all (trees_of_cuts x)) xs → Passes node_count_all depth_all nodes R
    rows_nodes l = shows_nodes (λ x. relabel_all label (trees_of_cuts x)) node_count_all depth_all R xs h.are apart_rows
        (subst (λ n. most_nodes < n) (sym (sum_alike (λ x. node_count_all (relabel_all label (trees_of_cuts x))) (λ x. node_count_all (trees_of_cuts x)) (λ x. node_count_all-relabel_all label (trees_of_cuts x)) xs)) l)

  -- ---- a part before parts

  module _ (C : Cut V → Type 0) (D : Cuts V → Type 0) (P : Tree L → Type 0) (Q : Trees L → Type 0) where
    some_found : (q : Found (Cuts V) N) → AreFound label order keeps Outside D Q q → found_some q ≡ true → (us : Trees L) × Q us
    some_found (too_much a) h e = some_passes node_count_all depth_all Q a h
    some_found (listed yss b) h e = alive _ _ _ _ D Q yss b h e

    none_found : (q : Found (Cuts V) N) → AreFound label order keeps Outside D Q q → found_some q ≡ false → (us : Trees L) → Q us → ⊥
    none_found (too_much a) h e us r = cc
    none_found (listed yss b) h e us r = dead _ _ _ _ D Q yss b h e us r

    no_first : ((t : Tree L) → P t → ⊥) → (us : Trees L) → BothTrees P Q us → ⊥
    no_first f no_trees r = r
    no_first f (tree t ts) r = f t r.0

    no_rest : ((us : Trees L) → Q us → ⊥) → (us : Trees L) → BothTrees P Q us → ⊥
    no_rest f no_trees r = r
    no_rest f (tree t ts) r = f ts r.1

    no_rows : ((us : Trees L) → BothTrees P Q us → ⊥) → (zss : List (Cuts V)) (far : Option N) → zss ≡ [] → far ≡ None → ListsRows label order keeps Outside (Both C D) (BothTrees P Q) zss far
    no_rows f zss far e g = subst (λ x. ListsRows label order keeps Outside (Both C D) (BothTrees P Q) x far) (sym e) (subst (λ x. ListsRows label order keeps Outside (Both C D) (BothTrees P Q) [] x) (sym g) (none _ _ _ _ (Both C D) (BothTrees P Q) f))

    too_first : (a : Load) → Passes node_count depth a P → (q : Found (Cuts V) N) → AreFound label order keeps Outside D Q q → (s : Bool) → found_some q ≡ s → (r : Found (Cuts V) N) → StillTooMuch a s r → AreFound label order keeps Outside (Both C D) (BothTrees P Q) r
    too_first a h q k true e (too_much b) i = let other = some_found q k e in subst (λ b. Passes node_count_all depth_all b (BothTrees P Q)) i (passes_first P Q a h other.0 other.1)
    too_first a h q k true e (listed zss far) i = absurd i
    too_first a h q k false e (too_much b) i = absurd i
    too_first a h q k false e (listed zss far) i = no_rows (no_rest (none_found q k e)) zss far i.0 i.1

    too_rest : (xs : List (Cut V)) (a : Option N) → ListsCuts label order keeps Outside C P xs a → (b : Load) → Passes node_count_all depth_all b Q → (s : Bool) → has_some xs a ≡ s → (r : Found (Cuts V) N) → StillTooMuch b s r → AreFound label order keeps Outside (Both C D) (BothTrees P Q) r
    too_rest xs a h b k true e (too_much d) i = let other = alive _ _ _ _ C P xs a h e in subst (λ b. Passes node_count_all depth_all b (BothTrees P Q)) i (passes_rest P Q b k other.0 other.1)
    too_rest xs a h b k true e (listed zss far) i = absurd i
    too_rest xs a h b k false e (too_much d) i = absurd i
    too_rest xs a h b k false e (listed zss far) i = no_rows (no_first (dead _ _ _ _ C P xs a h e)) zss far i.0 i.1

    module _ (still : (x y : Cuts V) → all_meant label x ≡ all_meant label y → Both C D x → Both C D y) where
      product_of : (xs : List (Cut V)) (a : Option N) → ListsCuts label order keeps Outside C P xs a → (yss : List (Cuts V)) (b : Option N) → ListsRows label order keeps Outside D Q yss b
          → (r : Found (Cuts V) N) → IsProductOf label xs a yss b r → AreFound label order keeps Outside (Both C D) (BothTrees P Q) r
      product_of xs a h yss b k (too_much outputs) i = rows_outputs (Both C D) (BothTrees P Q) (products xs yss) _ (product label order keeps Outside total same C D P Q xs yss a b h k) (subst (λ n. most_outputs < n) (sym (length_products xs yss)) i)
      product_of xs a h yss b k (too_much nodes) i = rows_nodes (Both C D) (BothTrees P Q) (products xs yss) _ (product label order keeps Outside total same C D P Q xs yss a b h k) i
      product_of xs a h yss b k (too_much depths) i = absurd i
      product_of xs a h yss b k (listed zss far) i =
          subst (λ far. ListsRows label order keeps Outside (Both C D) (BothTrees P Q) zss far) (sym i.1)
          (copied_rows label order total same keeps Outside (Both C D) still (BothTrees P Q) (products xs yss) zss _ (sym i.0) (product label order keeps Outside total same C D P Q xs yss a b h k))

      -- what is found of a part before parts
      pub found_before : (p : Found (Cut V) N) (q : Found (Cuts V) N) → IsFound label order keeps Outside C P p → AreFound label order keeps Outside D Q q → (r : Found (Cuts V) N) → IsProduct label p q r → AreFound label order keeps Outside (Both C D) (BothTrees P Q) r
      found_before (too_much a) q h k r i = too_first a h q k (found_some q) refl r i
      found_before (listed xs a) (too_much b) h k r i = too_rest xs a h b k (has_some xs a) refl r i
      found_before (listed xs a) (listed yss b) h k r i = product_of xs a h yss b k r i

  -- ---- a node over parts

  module _ (c : ℕ) (l : L) (D : Cuts V → Type 0) (Q : Trees L → Type 0) where
    far_over : keeps l ≡ false → (yss : List (Cuts V)) (a : Option N) → ListsRows label order keeps Outside D Q yss a → (s : Bool) → has_some yss a ≡ s → (zs : List (Cut V)) → zs ≡ [] → (b : Option N) → IsFarNode label keeps Outside l s b
        → ListsCuts label order keeps Outside (MadeOver label c l D) (NodeOver c l Q) zs b
    far_over k yss a h false e zs z b i =
        subst (λ zs. ListsCuts label order keeps Outside (MadeOver label c l D) (NodeOver c l Q) zs b) (sym z)
        (subst (λ b. ListsCuts label order keeps Outside (MadeOver label c l D) (NodeOver c l Q) [] b) (sym i) (no_node label order keeps Outside total same c l D Q (dead _ _ _ _ D Q yss a h e)))
    far_over k yss a h true e zs z None i = absurd i
    far_over k yss a h true e zs z (Some n) i =
        let other = alive _ _ _ _ D Q yss a h e in
        subst (λ zs. ListsCuts label order keeps Outside (MadeOver label c l D) (NodeOver c l Q) zs (Some n)) (sym z) (far_node label order keeps Outside total same c l D Q k n i other.0 other.1)

    too_wide : (yss : List (Cuts V)) (a : Option N) → ListsRows label order keeps Outside D Q yss a → most_nodes < sum_of (λ ys. suc (node_count_all (trees_of_cuts ys))) yss → Passes node_count depth nodes (NodeOver c l Q)
    too_wide yss a h w = shows_nodes (λ ys. node c l (relabel_all label (trees_of_cuts ys))) node_count depth (NodeOver c l Q) yss
        (each_weaker (λ ys. Q (relabel_all label (trees_of_cuts ys))) _ (λ ys q. (refl, refl, q)) yss h.are)
        (each_two_weaker _ _ (λ x y e f. rows_apart x y e (ap children_of f)) yss h.ascending)
        (subst (λ n. most_nodes < n) (sym (sum_alike (λ ys. suc (node_count_all (relabel_all label (trees_of_cuts ys)))) (λ ys. suc (node_count_all (trees_of_cuts ys))) (λ ys. ap suc (node_count_all-relabel_all label (trees_of_cuts ys))) yss)) w)

    too_tall : (yss : List (Cuts V)) (a : Option N) → ListsRows label order keeps Outside D Q yss a → OneOf (λ ys. greatest_depth < suc (depth_all (trees_of_cuts ys))) yss → Passes node_count depth depths (NodeOver c l Q)
    too_tall yss a h o = shows_deep (λ ys. node c l (relabel_all label (trees_of_cuts ys))) node_count depth (NodeOver c l Q) yss
        (each_weaker (λ ys. Q (relabel_all label (trees_of_cuts ys))) _ (λ ys q. (refl, refl, q)) yss h.are)
        (one_alike (λ ys. suc (depth_all (trees_of_cuts ys))) (λ ys. suc (depth_all (relabel_all label (trees_of_cuts ys)))) (λ ys. ap suc (sym (depth_all-relabel_all label (trees_of_cuts ys)))) yss o)

    -- what is found of a node over parts
    pub found_over : (q : Found (Cuts V) N) → AreFound label order keeps Outside D Q q → (r : Found (Cut V) N) → IsNodeFound label keeps Outside c l q r → IsFound label order keeps Outside (MadeOver label c l D) (NodeOver c l Q) r
    found_over (too_much a) h (too_much b) i = subst (λ b. Passes node_count depth b (NodeOver c l Q)) i (passes_node c l Q a h)
    found_over (too_much a) h (listed zs b) i = absurd i
    found_over (listed yss a) h (too_much outputs) i = absurd i
    found_over (listed yss a) h (too_much nodes) i = too_wide yss a h i
    found_over (listed yss a) h (too_much depths) i = too_tall yss a h i
    found_over (listed yss a) h (listed zs b) (inl (k, are, e)) =
        subst (λ b. ListsCuts label order keeps Outside (MadeOver label c l D) (NodeOver c l Q) zs b) (sym e) (nodes_over label order keeps Outside total same c l D Q k yss zs a are h)
    found_over (listed yss a) h (listed zs b) (inr (k, z, i)) = far_over k yss a h (has_some yss a) refl zs z b i
