-- A short list of small outputs that tells of none that isn't kept shows that no load passes.
use Rattle.std.proofs.Common.{ℕ, suc, ◌≡◌, ◌+◌, ◌<◌, ◌≤◌, inl, inr, Bool, List, [], ◌∷◌, length, None, refl, sym, ap, ap₂, subst, ◌∙◌, ◌↔◌, arith}
use Rattle.std.specs.List.{All, sum_by}
use Rattle.std.proofs.lemmas.List.Elements.{All-nil, All-cons, All-head, All-tail}
use Rattle.std.proofs.lemmas.List.Sums.{sum_by-cons}
use Rattle.std.specs.declared.cmp.Ordering.{Ordering}
use Rattle.std.specs.declared.cmp.Ordering.TheVariants.{Equal}
use Rattle.std.specs.Cmp.{IsTotalOrder}
use Rattle.model_tree.specs.Limits.{most_nodes, greatest_depth, most_outputs}
use Rattle.model_tree.specs.Tree.{Tree, node_count, depth, relabel}
use Rattle.model_tree.proofs.Trees.{node_count-relabel}
use Rattle.model_sta.specs.EachTwo as all_by_index
use Rattle.model_sta.specs.Loads.{Load, outputs, nodes, depths, IsTooMuch}
use Rattle.model_sta.specs.Sets.{Each}
use Rattle.model_sttr.specs.Cuts.{Cut, tree_of}
use Rattle.apply_laws.specs.Lists.{EachTwo, HasOf, sum_of}
use Rattle.apply_laws.specs.Listing.{ListsCuts}
use Rattle.apply_laws.specs.Found.{Passes}
use Rattle.apply_laws.proofs.Parts.{depth-relabel}

-- ---- the same in words that go by index

module _ {X : Type 0} where
  pub each_all : (P : X → Type 0) (xs : List X) → Each P xs → All P xs
  each_all P [] h = All-nil P
  each_all P (x ∷ xs) h = All-cons P x xs h.0 (each_all P xs h.1)

  pub all_each : (P : X → Type 0) (xs : List X) → All P xs → Each P xs
  all_each P [] h = tt
  all_each P (x ∷ xs) h = (All-head P x xs h, all_each P xs (All-tail P x xs h))

  two_all : (P : X → X → Type 0) (xs : List X) → EachTwo P xs → all_by_index.EachTwo P xs
  two_all P [] h = tt
  two_all P (x ∷ xs) h = (each_all (P x) xs h.0, two_all P xs h.1)

  all_two : (P : X → X → Type 0) (xs : List X) → all_by_index.EachTwo P xs → EachTwo P xs
  all_two P [] h = tt
  all_two P (x ∷ xs) h = (all_each (P x) xs h.0, all_two P xs h.1)

  sum_same : (f : X → ℕ) (xs : List X) → sum_of f xs ≡ sum_by f xs
  sum_same f [] = refl
  sum_same f (x ∷ xs) = rw (sum_by-cons f x xs) (ap (λ n. f x + n) (sum_same f xs))

module _ {L : Type 0} (R : Tree L → Tree L → Type 0) (t : Tree L) where
  pub too_much_is : (a : Load) → Passes node_count depth a (R t) → IsTooMuch a R t
  too_much_is outputs (us, r, d, m) = (us, each_all (R t) us r, two_all _ us d, m)
  too_much_is nodes (us, r, d, m) = (us, each_all (R t) us r, two_all _ us d, subst (λ n. most_nodes < n) (sum_same node_count us) m)
  too_much_is depths h = h

  pub is_too_much : (a : Load) → IsTooMuch a R t → Passes node_count depth a (R t)
  is_too_much outputs (us, r, d, m) = (us, all_each (R t) us r, all_two _ us d, m)
  is_too_much nodes (us, r, d, m) = (us, all_each (R t) us r, all_two _ us d, subst (λ n. most_nodes < n) (sym (sum_same node_count us)) m)
  is_too_much depths h = h

-- ---- different elements of a list are no more than it

module _ {X Y : Type 0} (of : X → Y) (f : Y → ℕ) where
  -- what is left of a list without one element
  record Without (xs : List X) (y : Y) : Type 0 where
    left : List X
    count : length xs ≡ suc (length left)
    sum : sum_of (λ x. f (of x)) xs ≡ f y + sum_of (λ x. f (of x)) left
    others : (z : Y) → ¬ (y ≡ z) → HasOf of xs z → HasOf of left z

  without : (xs : List X) (y : Y) → HasOf of xs y → Without xs y
  without [] y h = absurd h
  without (x ∷ xs) y (inl e) = record { left = xs; count = refl; sum = ap (λ z. f z + sum_of (λ x. f (of x)) xs) e; others = still }
    where
      still : (z : Y) → ¬ (y ≡ z) → HasOf of (x ∷ xs) z → HasOf of xs z
      still z d (inl g) = absurd (d (sym e ∙ g))
      still z d (inr h) = h
  without (x ∷ xs) y (inr h) = let w = without xs y h in record { left = x ∷ w.left; count = ap suc w.count; sum = omega (arith, w.sum); others = still w }
    where
      still : (w : Without xs y) → (z : Y) → ¬ (y ≡ z) → HasOf of (x ∷ xs) z → HasOf of (x ∷ w.left) z
      still w z d (inl g) = inl g
      still w z d (inr h) = inr (w.others z d h)

  -- different elements of a list are no more than it, nor is their sum
  fewer : (ys : List Y) (xs : List X) → EachTwo (λ x y. ¬ (x ≡ y)) ys → Each (HasOf of xs) ys → (length ys ≤ length xs) × (sum_of f ys ≤ sum_of (λ x. f (of x)) xs)
  fewer [] xs d h = (omega arith, omega arith)
  fewer (y ∷ ys) xs d h =
      let w = without xs y h.0 in
      let r = fewer ys w.left d.1 (those w ys d.0 h.1) in
      (omega (arith, r.0, w.count), omega (arith, r.1, w.sum))
    where
      those : (w : Without xs y) (zs : List Y) → Each (λ z. ¬ (y ≡ z)) zs → Each (HasOf of xs) zs → Each (HasOf of w.left) zs
      those w [] d h = tt
      those w (z ∷ zs) d h = (w.others z d.0 h.0, those w zs d.1 h.1)

module _ {V L N : Type 0} (label : V → L) (order : V → V → Ordering) (keeps : L → Bool) (Outside : L → N → Type 0) (total : IsTotalOrder order) (same : (v w : V) → (order v w ≡ Equal) ↔ (label v ≡ label w)) where
  module _ (C : Cut V → Type 0) (R : Tree L → Type 0) (xs : List (Cut V)) (h : ListsCuts label order keeps Outside C R xs None) where
    listed : (us : List (Tree L)) → Each R us → Each (HasOf (λ x. relabel label (tree_of x)) xs) us
    listed [] r = tt
    listed (u ∷ us) r = (h.all u r.0 (h.far_is u r.0), listed us r.1)

    deepest : (xs : List (Cut V)) (u : Tree L) → HasOf (λ x. relabel label (tree_of x)) xs u → Each (λ x. depth (tree_of x) ≤ greatest_depth) xs → depth u ≤ greatest_depth
    deepest [] u o e = absurd o
    deepest (x ∷ xs) u (inl p) e = subst (λ n. n ≤ greatest_depth) (sym (depth-relabel label (tree_of x)) ∙ ap depth p) e.0
    deepest (x ∷ xs) u (inr o) e = deepest xs u o e.1

    -- no load passes
    pub within : length xs ≤ most_outputs → sum_of (λ x. node_count (tree_of x)) xs ≤ most_nodes → Each (λ x. depth (tree_of x) ≤ greatest_depth) xs → (load : Load) → Passes node_count depth load R → ⊥
    within a b c outputs (us, r, d, m) = let f = fewer (λ x. relabel label (tree_of x)) node_count us xs d (listed us r) in omega (arith, f.0, m, a)
    within a b c nodes (us, r, d, m) = let f = fewer (λ x. relabel label (tree_of x)) node_count us xs d (listed us r) in omega (arith, f.1, m, subst (λ n. n ≤ most_nodes) (sym (sums xs)) b)
      where
        sums : (xs : List (Cut V)) → sum_of (λ x. node_count (relabel label (tree_of x))) xs ≡ sum_of (λ x. node_count (tree_of x)) xs
        sums [] = refl
        sums (x ∷ xs) = ap₂ (λ a b. a + b) (node_count-relabel label (tree_of x)) (sums xs)
    within a b c depths (u, r, m) = let d = deepest xs u (h.all u r (h.far_is u r)) c in omega (arith, d, m)
