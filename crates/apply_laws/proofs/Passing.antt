-- A load that parts pass is passed by what is over them.
use Rattle.std.proofs.Common.{ℕ, ◌≡◌, ◌+◌, ◌<◌, ◌≤◌, inl, inr, List, [], ◌∷◌, map, length, refl, sym, ap, subst, arith}
use Rattle.std.proofs.lemmas.List.{length-map}
use Rattle.model_tree.specs.Limits.{most_nodes, greatest_depth, most_outputs}
use Rattle.model_tree.specs.Tree.{Tree, node, Trees, no_trees, tree, node_count, node_count_all, depth, depth_all}
use Rattle.model_sta.specs.Loads.{Load, outputs, nodes, depths}
use Rattle.model_sta.specs.Sets.{Each}
use Rattle.apply_laws.specs.Lists.{EachTwo, OneOf, sum_of}
use Rattle.apply_laws.specs.Listing.{BothTrees, NodeOver}
use Rattle.apply_laws.specs.Found.{Passes}
use Rattle.apply_laws.proofs.Listed.{each_map, each_weaker, each_two_map}

module _ {Y : Type 0} (size deep : Y → ℕ) where
  pub passes_alike : (R S : Y → Type 0) → ((y : Y) → R y → S y) → (a : Load) → Passes size deep a R → Passes size deep a S
  passes_alike R S f outputs (ys, r, d, m) = (ys, each_weaker R S f ys r, d, m)
  passes_alike R S f nodes (ys, r, d, m) = (ys, each_weaker R S f ys r, d, m)
  passes_alike R S f depths (y, r, m) = (y, f y r, m)

  -- what passes a load is there
  pub some_passes : (R : Y → Type 0) (a : Load) → Passes size deep a R → (y : Y) × R y
  some_passes R outputs ([], r, d, m) = absurd (omega (arith, m))
  some_passes R outputs (y ∷ ys, r, d, m) = (y, r.0)
  some_passes R nodes ([], r, d, m) = absurd (omega (arith, m))
  some_passes R nodes (y ∷ ys, r, d, m) = (y, r.0)
  some_passes R depths (y, r, m) = (y, r)

module _ {X Y : Type 0} (size deep : X → ℕ) (wide tall : Y → ℕ) (f : X → Y) (apart : (x y : X) → f x ≡ f y → x ≡ y) (wider : (x : X) → size x ≤ wide (f x)) (taller : (x : X) → deep x ≤ tall (f x)) where
  different_map : (xs : List X) → EachTwo (λ x y. ¬ (x ≡ y)) xs → EachTwo (λ x y. ¬ (x ≡ y)) (map f xs)
  different_map [] h = tt
  different_map (x ∷ xs) h = (each_map (λ y. ¬ (f x ≡ y)) f xs (each_weaker (λ y. ¬ (x ≡ y)) (λ y. ¬ (f x ≡ f y)) (λ y d e. d (apart x y e)) xs h.0), different_map xs h.1)

  sum_map : (xs : List X) → sum_of size xs ≤ sum_of wide (map f xs)
  sum_map [] = omega arith
  sum_map (x ∷ xs) = omega (arith, wider x, sum_map xs)

  pub passes_map : (R : X → Type 0) (S : Y → Type 0) → ((x : X) → R x → S (f x)) → (a : Load) → Passes size deep a R → Passes wide tall a S
  passes_map R S k outputs (xs, r, d, m) = (map f xs, each_map S f xs (each_weaker R (λ x. S (f x)) k xs r), different_map xs d, subst (λ n. most_outputs < n) (sym (length-map xs f)) m)
  passes_map R S k nodes (xs, r, d, m) = (map f xs, each_map S f xs (each_weaker R (λ x. S (f x)) k xs r), different_map xs d, omega (arith, m, sum_map xs))
  passes_map R S k depths (x, r, m) = (f x, k x r, omega (arith, m, taller x))

module _ {L : Type 0} where
  abbrev first_of : Tree L → Trees L → Tree L
  first_of d no_trees = d
  first_of d (tree t ts) = t

  abbrev rest_of : Trees L → Trees L
  rest_of no_trees = no_trees
  rest_of (tree t ts) = ts

  abbrev below : Tree L → Trees L
  below (node c l ts) = ts

  -- with one choice of the others
  pub passes_first : (P : Tree L → Type 0) (Q : Trees L → Type 0) (a : Load) → Passes node_count depth a P → (us : Trees L) → Q us → Passes node_count_all depth_all a (BothTrees P Q)
  passes_first P Q a h us q =
      passes_map node_count depth node_count_all depth_all (λ t. tree t us) (λ t u e. ap (first_of t) e) (λ t. omega arith) (λ t. omega arith) P (BothTrees P Q) (λ t p. (p, q)) a h

  pub passes_rest : (P : Tree L → Type 0) (Q : Trees L → Type 0) (a : Load) → Passes node_count_all depth_all a Q → (u : Tree L) → P u → Passes node_count_all depth_all a (BothTrees P Q)
  passes_rest P Q a h u p =
      passes_map node_count_all depth_all node_count_all depth_all (λ ts. tree u ts) (λ ts us e. ap rest_of e) (λ ts. omega arith) (λ ts. omega arith) Q (BothTrees P Q) (λ ts q. (p, q)) a h

  pub passes_node : (c : ℕ) (l : L) (Q : Trees L → Type 0) (a : Load) → Passes node_count_all depth_all a Q → Passes node_count depth a (NodeOver c l Q)
  passes_node c l Q a h = passes_map node_count_all depth_all node_count depth (λ ts. node c l ts) (λ ts us e. ap below e) (λ ts. omega arith) (λ ts. omega arith) Q (NodeOver c l Q) (λ ts q. (refl, refl, q)) a h

-- ---- a list of different ones shows a load

module _ {X Y : Type 0} (of : X → Y) (size deep : Y → ℕ) (R : Y → Type 0) where
  sum-map : (xs : List X) → sum_of size (map of xs) ≡ sum_of (λ x. size (of x)) xs
  sum-map [] = refl
  sum-map (x ∷ xs) = ap (λ n. size (of x) + n) (sum-map xs)

  pub shows_deep : (xs : List X) → Each (λ x. R (of x)) xs → OneOf (λ x. greatest_depth < deep (of x)) xs → Passes size deep depths R
  shows_deep [] r o = absurd o
  shows_deep (x ∷ xs) r (inl l) = (of x, r.0, l)
  shows_deep (x ∷ xs) r (inr o) = shows_deep xs r.1 o

  module _ (xs : List X) (are : Each (λ x. R (of x)) xs) (apart : EachTwo (λ x y. ¬ (of x ≡ of y)) xs) where
    pub shows_outputs : most_outputs < length xs → Passes size deep outputs R
    shows_outputs l = (map of xs, each_map R of xs are, each_two_map (λ x y. ¬ (x ≡ y)) of xs apart, subst (λ n. most_outputs < n) (sym (length-map xs of)) l)

    pub shows_nodes : most_nodes < sum_of (λ x. size (of x)) xs → Passes size deep nodes R
    shows_nodes l = (map of xs, each_map R of xs are, each_two_map (λ x y. ¬ (x ≡ y)) of xs apart, subst (λ n. most_nodes < n) (sym (sum-map xs)) l)
