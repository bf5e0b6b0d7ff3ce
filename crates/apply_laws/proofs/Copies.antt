-- Cuts that mean the same stand for the same tree, compare alike, and list the same outputs.
use Rattle.std.proofs.Common.{◌≡◌, inl, inr, Bool, true, List, [], ◌∷◌, map, Option, refl, sym, ap, subst, ◌∙◌, ◌↔◌}
use Rattle.std.specs.declared.cmp.Ordering.{Ordering}
use Rattle.std.specs.declared.cmp.Ordering.TheVariants.{Less, Equal}
use Rattle.std.specs.Cmp.{IsTotalOrder}
use Rattle.model_tree.specs.Tree.{Tree, node, Trees, tree, relabel, relabel_all}
use Rattle.model_tree.specs.TreeOrder.{tree_cmp, trees_cmp}
use Rattle.model_sta.specs.Sets.{Each}
use Rattle.model_sta.specs.Pairwise.{Pairwise}
use Rattle.model_sta.proofs.TreeOrder.{tree_congr, tree_right, trees_congr, trees_right, same_tree, same_trees}
use Rattle.model_sttr.specs.Cuts.{Cut, keep, new, Cuts, no_cuts, cut, tree_of, trees_of_cuts}
use Rattle.apply_laws.specs.Lists.{EachTwo, HasOf}
use Rattle.apply_laws.specs.Meant.{meant, all_meant}
use Rattle.apply_laws.specs.Listing.{IsListing, ListsCuts, ListsRows, all_kept, each_kept, HasOutside, SomeHasOutside}

module _ {V L : Type 0} (label : V → L) where
  mutual
    -- the tree of the meaning
    pub meant_tree : (x : Cut V) → relabel label (tree_of x) ≡ tree_of (meant label x)
    meant_tree (keep t) = refl
    meant_tree (new c v xs) = ap (node c (label v)) (meant_trees xs)

    pub meant_trees : (xs : Cuts V) → relabel_all label (trees_of_cuts xs) ≡ trees_of_cuts (all_meant label xs)
    meant_trees no_cuts = refl
    meant_trees (cut x xs) = λ i. tree (meant_tree x i) (meant_trees xs i)

  pub same_meaning : (x y : Cut V) → meant label x ≡ meant label y → relabel label (tree_of x) ≡ relabel label (tree_of y)
  same_meaning x y e = meant_tree x ∙ (ap tree_of e ∙ sym (meant_tree y))

  pub same_meanings : (xs ys : Cuts V) → all_meant label xs ≡ all_meant label ys → relabel_all label (trees_of_cuts xs) ≡ relabel_all label (trees_of_cuts ys)
  same_meanings xs ys e = meant_trees xs ∙ (ap trees_of_cuts e ∙ sym (meant_trees ys))

-- lists that f makes the same agree place by place
pub pairs_of : {X Y : Type 0} (f : X → Y) (xs ys : List X) → map f xs ≡ map f ys → Pairwise (λ x y. f x ≡ f y) xs ys
pairs_of f [] [] e = tt
pairs_of f [] (y ∷ ys) e = cc
pairs_of f (x ∷ xs) [] e = cc
pairs_of f (x ∷ xs) (y ∷ ys) e = (first, pairs_of f xs ys rest)
  where
    first : f x ≡ f y
    first = cc

    rest : map f xs ≡ map f ys
    rest = cc

-- ---- listings

module _ {X Y N : Type 0} (of : X → Y) (cmp : X → X → Ordering) (kept : Y → Bool) (Outside : Y → N → Type 0) (Same : X → X → Type 0) (same_of : (x y : X) → Same x y → of x ≡ of y) (same_cmp : (x y u v : X) → Same x u → Same y v → cmp x y ≡ cmp u v) where
  paired_each : (P Q : X → Type 0) → ((x y : X) → Same x y → P x → Q y) → (xs ys : List X) → Pairwise Same xs ys → Each P xs → Each Q ys
  paired_each P Q f [] [] p h = tt
  paired_each P Q f [] (y ∷ ys) p h = absurd p
  paired_each P Q f (x ∷ xs) [] p h = absurd p
  paired_each P Q f (x ∷ xs) (y ∷ ys) p h = (f x y p.0 h.0, paired_each P Q f xs ys p.1 h.1)

  paired_ascending : (xs ys : List X) → Pairwise Same xs ys → EachTwo (λ x y. cmp x y ≡ Less) xs → EachTwo (λ x y. cmp x y ≡ Less) ys
  paired_ascending [] [] p h = tt
  paired_ascending [] (y ∷ ys) p h = absurd p
  paired_ascending (x ∷ xs) [] p h = absurd p
  paired_ascending (x ∷ xs) (y ∷ ys) p h = (paired_each (λ z. cmp x z ≡ Less) (λ z. cmp y z ≡ Less) (λ u v s e. sym (same_cmp x u y v p.0 s) ∙ e) xs ys p.1 h.0, paired_ascending xs ys p.1 h.1)

  paired_has : (xs ys : List X) (z : Y) → Pairwise Same xs ys → HasOf of xs z → HasOf of ys z
  paired_has [] ys z p h = absurd h
  paired_has (x ∷ xs) [] z p h = absurd p
  paired_has (x ∷ xs) (y ∷ ys) z p (inl e) = inl (sym (same_of x y p.0) ∙ e)
  paired_has (x ∷ xs) (y ∷ ys) z p (inr h) = inr (paired_has xs ys z p.1 h)

  -- copies of what is listed are a listing
  copied : (C : X → Type 0) (R : Y → Type 0) → ((x y : X) → Same x y → C x → C y) → (xs ys : List X) (far : Option N) → Pairwise Same xs ys → IsListing of cmp kept Outside C R xs far → IsListing of cmp kept Outside C R ys far
  copied C R still xs ys far p h = record {
    each = paired_each C C still xs ys p h.each;
    are = paired_each (λ x. R (of x)) (λ x. R (of x)) (λ x y s r. subst R (same_of x y s) r) xs ys p h.are;
    keeps = paired_each (λ x. kept (of x) ≡ true) (λ x. kept (of x) ≡ true) (λ x y s e. ap kept (sym (same_of x y s)) ∙ e) xs ys p h.keeps;
    ascending = paired_ascending xs ys p h.ascending;
    all = λ z r e. paired_has xs ys z p (h.all z r e);
    far_is = h.far_is;
  }

module _ {V L : Type 0} (label : V → L) (order : V → V → Ordering) (total : IsTotalOrder order) (same : (v w : V) → (order v w ≡ Equal) ↔ (label v ≡ label w)) where
  -- cuts that mean the same compare alike
  cut_order : (x y u v : Cut V) → meant label x ≡ meant label u → meant label y ≡ meant label v → tree_cmp order (tree_of x) (tree_of y) ≡ tree_cmp order (tree_of u) (tree_of v)
  cut_order x y u v e f =
      tree_congr order total (tree_of x) (tree_of u) (tree_of y) (same_tree order total label same (tree_of x) (tree_of u) (same_meaning label x u e))
      ∙ sym (tree_right order total (tree_of u) (tree_of y) (tree_of v) (same_tree order total label same (tree_of y) (tree_of v) (same_meaning label y v f)))

  row_order : (x y u v : Cuts V) → all_meant label x ≡ all_meant label u → all_meant label y ≡ all_meant label v → trees_cmp order (trees_of_cuts x) (trees_of_cuts y) ≡ trees_cmp order (trees_of_cuts u) (trees_of_cuts v)
  row_order x y u v e f =
      trees_congr order total (trees_of_cuts x) (trees_of_cuts u) (trees_of_cuts y) (same_trees order total label same (trees_of_cuts x) (trees_of_cuts u) (same_meanings label x u e))
      ∙ sym (trees_right order total (trees_of_cuts u) (trees_of_cuts y) (trees_of_cuts v) (same_trees order total label same (trees_of_cuts y) (trees_of_cuts v) (same_meanings label y v f)))

  module _ {N : Type 0} (keeps : L → Bool) (Outside : L → N → Type 0) where
    pub copied_cuts : (C : Cut V → Type 0) → ((x y : Cut V) → meant label x ≡ meant label y → C x → C y) → (R : Tree L → Type 0) (xs ys : List (Cut V)) (far : Option N) → map (meant label) xs ≡ map (meant label) ys
        → ListsCuts label order keeps Outside C R xs far → ListsCuts label order keeps Outside C R ys far
    copied_cuts C still R xs ys far p h = copied (λ x. relabel label (tree_of x)) (λ x y. tree_cmp order (tree_of x) (tree_of y)) (all_kept keeps) (HasOutside Outside) (λ x y. meant label x ≡ meant label y) (same_meaning label) cut_order
        C R still xs ys far (pairs_of (meant label) xs ys p) h

    pub copied_rows : (C : Cuts V → Type 0) → ((x y : Cuts V) → all_meant label x ≡ all_meant label y → C x → C y) → (R : Trees L → Type 0) (xs ys : List (Cuts V)) (far : Option N) → map (all_meant label) xs ≡ map (all_meant label) ys
        → ListsRows label order keeps Outside C R xs far → ListsRows label order keeps Outside C R ys far
    copied_rows C still R xs ys far p h = copied (λ x. relabel_all label (trees_of_cuts x)) (λ x y. trees_cmp order (trees_of_cuts x) (trees_of_cuts y)) (each_kept keeps) (SomeHasOutside Outside) (λ x y. all_meant label x ≡ all_meant label y) (same_meanings label) row_order
        C R still xs ys far (pairs_of (all_meant label) xs ys p) h
