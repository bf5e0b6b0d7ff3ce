-- Lists of the instances of terms.
use Rattle.std.proofs.Common.{ℕ, ◌≡◌, ◌+◌, ◌*◌, inl, inr, Bool, true, false, ◌&&◌, List, [], ◌∷◌, map, length, Option, Some, None, refl, sym, ap, ap₂, subst, ◌∙◌, ◌↔◌, arith, length-append}
use Rattle.std.proofs.lemmas.Bool.{and_parts, and_from}
use Rattle.std.proofs.lemmas.List.{length-map}
use Rattle.std.specs.declared.cmp.Ordering.{Ordering}
use Rattle.std.specs.declared.cmp.Ordering.TheVariants.{Less, Equal}
use Rattle.std.specs.Cmp.{IsTotalOrder}
use Rattle.std.specs.Ordering.{ordering_then}
use Rattle.std.proofs.lemmas.Cmp.{nat_cmp_total, tied_itself}
use Rattle.model_tree.specs.Tree.{Tree, node, Trees, no_trees, tree, relabel, relabel_all}
use Rattle.model_tree.specs.TreeOrder.{tree_cmp, trees_cmp}
use Rattle.model_sta.specs.Sets.{Each}
use Rattle.model_sta.proofs.TreeOrder.{tree_itself}
use Rattle.model_sttr.specs.Cuts.{Cut, keep, new, Cuts, no_cuts, cut, tree_of, trees_of_cuts}
use Rattle.apply_laws.specs.Lists.{EachTwo, HasOf}
use Rattle.apply_laws.specs.Listing.{IsFar, has_some, first_some, only_if, all_kept, each_kept, HasOutside, SomeHasOutside, Both, BothTrees, NodeOver, MadeOver, products, ListsCuts, ListsRows, AreNodes}
use Rattle.apply_laws.proofs.Listed.{each_map, each_weaker, each_append, each_all, each_two_map, each_two_append, has_left, has_right, dead, alive, none, far_alone}

pub length_products : {V : Type 0} (xs : List (Cut V)) (yss : List (Cuts V)) → length (products xs yss) ≡ length xs * length yss
length_products [] yss = omega arith
length_products (x ∷ xs) yss = length-append (map (cut x) yss) (products xs yss) ∙ (ap₂ (λ a b. a + b) (length-map yss (cut x)) (length_products xs yss) ∙ grind arith)

module _ {V L N : Type 0} (label : V → L) (order : V → V → Ordering) (keeps : L → Bool) (Outside : L → N → Type 0) (total : IsTotalOrder order) (same : (v w : V) → (order v w ≡ Equal) ↔ (label v ≡ label w)) where
  module _ (C : Cut V → Type 0) (D : Cuts V → Type 0) (E : Cuts V → Type 0) (f : (x : Cut V) (ys : Cuts V) → C x → D ys → E (cut x ys)) where
    each_product : (xs : List (Cut V)) (yss : List (Cuts V)) → Each C xs → Each D yss → Each E (products xs yss)
    each_product [] yss h k = tt
    each_product (x ∷ xs) yss h k = each_append E (map (cut x) yss) (products xs yss) (each_map E (cut x) yss (each_weaker D (λ ys. E (cut x ys)) (λ ys d. f x ys h.0 d) yss k)) (each_product xs yss h.1 k)

  beside : (x : Cut V) (yss : List (Cuts V)) → EachTwo (λ y z. trees_cmp order (trees_of_cuts y) (trees_of_cuts z) ≡ Less) yss → EachTwo (λ y z. trees_cmp order (trees_of_cuts y) (trees_of_cuts z) ≡ Less) (map (cut x) yss)
  beside x yss h = each_two_map (λ y z. trees_cmp order (trees_of_cuts y) (trees_of_cuts z) ≡ Less) (cut x) yss (rows yss h)
    where
      row : (y z : Cuts V) → trees_cmp order (trees_of_cuts y) (trees_of_cuts z) ≡ Less → trees_cmp order (trees_of_cuts (cut x y)) (trees_of_cuts (cut x z)) ≡ Less
      row y z e = ap (λ o. ordering_then o (trees_cmp order (trees_of_cuts y) (trees_of_cuts z))) (tree_itself order total (tree_of x)) ∙ e

      rows : (yss : List (Cuts V)) → EachTwo (λ y z. trees_cmp order (trees_of_cuts y) (trees_of_cuts z) ≡ Less) yss → EachTwo (λ y z. trees_cmp order (trees_of_cuts (cut x y)) (trees_of_cuts (cut x z)) ≡ Less) yss
      rows [] h = tt
      rows (y ∷ ys) h = (each_weaker _ _ (row y) ys h.0, rows ys h.1)

  -- each row with x is before each row with a later one
  before : (x : Cut V) (xs : List (Cut V)) (yss zss : List (Cuts V)) → Each (λ z. tree_cmp order (tree_of x) (tree_of z) ≡ Less) xs → Each (λ y. Each (λ z. trees_cmp order (trees_of_cuts y) (trees_of_cuts z) ≡ Less) (products xs zss)) (map (cut x) yss)
  before x xs yss zss h = each_map (λ y. Each (λ z. trees_cmp order (trees_of_cuts y) (trees_of_cuts z) ≡ Less) (products xs zss)) (cut x) yss
      (each_all _ (λ y. each_product (λ z. tree_cmp order (tree_of x) (tree_of z) ≡ Less) (λ _. Unit {0}) (λ z. trees_cmp order (trees_of_cuts (cut x y)) (trees_of_cuts z) ≡ Less)
      (λ z zs e _. ap (λ o. ordering_then o (trees_cmp order (trees_of_cuts y) (trees_of_cuts zs))) e) xs zss h (each_all (λ _. Unit {0}) (λ _. tt) zss)) yss)

  ascending_product : (xs : List (Cut V)) (yss : List (Cuts V)) → EachTwo (λ y z. tree_cmp order (tree_of y) (tree_of z) ≡ Less) xs → EachTwo (λ y z. trees_cmp order (trees_of_cuts y) (trees_of_cuts z) ≡ Less) yss → EachTwo (λ y z. trees_cmp order (trees_of_cuts y) (trees_of_cuts z) ≡ Less) (products xs yss)
  ascending_product [] yss h k = tt
  ascending_product (x ∷ xs) yss h k = each_two_append (λ y z. trees_cmp order (trees_of_cuts y) (trees_of_cuts z) ≡ Less) (map (cut x) yss) (products xs yss) (beside x yss k) (ascending_product xs yss h.1 k) (before x xs yss yss h.0)

  in_row : (x : Cut V) (t : Tree L) (ts : Trees L) (yss : List (Cuts V)) → relabel label (tree_of x) ≡ t → HasOf (λ ys. relabel_all label (trees_of_cuts ys)) yss ts → HasOf (λ ys. relabel_all label (trees_of_cuts ys)) (map (cut x) yss) (tree t ts)
  in_row x t ts [] e h = absurd h
  in_row x t ts (ys ∷ yss) e (inl f) = inl (λ i. tree (e i) (f i))
  in_row x t ts (ys ∷ yss) e (inr h) = inr (in_row x t ts yss e h)

  in_product : (t : Tree L) (ts : Trees L) (xs : List (Cut V)) (yss : List (Cuts V)) → HasOf (λ x. relabel label (tree_of x)) xs t → HasOf (λ ys. relabel_all label (trees_of_cuts ys)) yss ts → HasOf (λ ys. relabel_all label (trees_of_cuts ys)) (products xs yss) (tree t ts)
  in_product t ts [] yss h k = absurd h
  in_product t ts (x ∷ xs) yss (inl e) k = has_left _ (map (cut x) yss) (products xs yss) (tree t ts) (in_row x t ts yss e k)
  in_product t ts (x ∷ xs) yss (inr h) k = has_right _ (map (cut x) yss) (products xs yss) (tree t ts) (in_product t ts xs yss h k)

  module _ (C : Cut V → Type 0) (D : Cuts V → Type 0) (P : Tree L → Type 0) (Q : Trees L → Type 0) where
    far_product : (xs : List (Cut V)) (yss : List (Cuts V)) (a b : Option N) → ListsCuts label order keeps Outside C P xs a → ListsRows label order keeps Outside D Q yss b
        → (p q : Bool) → has_some xs a ≡ p → has_some yss b ≡ q → IsFar (each_kept keeps) (SomeHasOutside Outside) (BothTrees P Q) (only_if (p && q) (first_some a b))
    far_product xs yss a b h k false q e f = no_first
      where
        no_first : (us : Trees L) → BothTrees P Q us → each_kept keeps us ≡ true
        no_first no_trees r = absurd r
        no_first (tree t ts) r = absurd (dead _ _ _ _ C P xs a h e t r.0)
    far_product xs yss a b h k true false e f = no_rest
      where
        no_rest : (us : Trees L) → BothTrees P Q us → each_kept keeps us ≡ true
        no_rest no_trees r = absurd r
        no_rest (tree t ts) r = absurd (dead _ _ _ _ D Q yss b k f ts r.1)
    far_product xs yss (Some n) b h k true true e f = let other = alive _ _ _ _ D Q yss b k f in (tree h.far_is.0 other.0, (h.far_is.1, other.1), inl h.far_is.2)
    far_product xs yss None (Some n) h k true true e f = let other = alive _ _ _ _ C P xs None h e in (tree other.0 k.far_is.0, (other.1, k.far_is.1), inr k.far_is.2)
    far_product xs yss None None h k true true e f = both_kept
      where
        both_kept : (us : Trees L) → BothTrees P Q us → each_kept keeps us ≡ true
        both_kept no_trees r = absurd r
        both_kept (tree t ts) r = and_from (all_kept keeps t) (each_kept keeps ts) (h.far_is t r.0) (k.far_is ts r.1)

    all_product : (xs : List (Cut V)) (yss : List (Cuts V)) (a b : Option N) → ListsCuts label order keeps Outside C P xs a → ListsRows label order keeps Outside D Q yss b
        → (us : Trees L) → BothTrees P Q us → each_kept keeps us ≡ true → HasOf (λ ys. relabel_all label (trees_of_cuts ys)) (products xs yss) us
    all_product xs yss a b h k no_trees r e = absurd r
    all_product xs yss a b h k (tree t ts) r e = let both = and_parts (all_kept keeps t) (each_kept keeps ts) e in in_product t ts xs yss (h.all t r.0 both.0) (k.all ts r.1 both.1)

    -- a part before parts
    pub product : (xs : List (Cut V)) (yss : List (Cuts V)) (a b : Option N) → ListsCuts label order keeps Outside C P xs a → ListsRows label order keeps Outside D Q yss b
        → ListsRows label order keeps Outside (Both C D) (BothTrees P Q) (products xs yss) (only_if (has_some xs a && has_some yss b) (first_some a b))
    product xs yss a b h k = record {
      each = each_product C D (Both C D) (λ x ys c d. (c, d)) xs yss h.each k.each;
      are = each_product (λ x. P (relabel label (tree_of x))) (λ ys. Q (relabel_all label (trees_of_cuts ys))) (λ ys. BothTrees P Q (relabel_all label (trees_of_cuts ys))) (λ x ys c d. (c, d)) xs yss h.are k.are;
      keeps = each_product (λ x. all_kept keeps (relabel label (tree_of x)) ≡ true) (λ ys. each_kept keeps (relabel_all label (trees_of_cuts ys)) ≡ true) (λ ys. each_kept keeps (relabel_all label (trees_of_cuts ys)) ≡ true) (λ x ys c d. and_from (all_kept keeps (relabel label (tree_of x))) (each_kept keeps (relabel_all label (trees_of_cuts ys))) c d) xs yss h.keeps k.keeps;
      ascending = ascending_product xs yss h.ascending k.ascending;
      all = all_product xs yss a b h k;
      far_is = far_product xs yss a b h k (has_some xs a) (has_some yss b) refl refl;
    }

  -- no parts
  pub empty_row : ListsRows label order keeps Outside (λ xs. xs ≡ no_cuts) (λ ts. ts ≡ no_trees) (no_cuts ∷ []) None
  empty_row = record { each = (refl, tt); are = (refl, tt); keeps = (refl, tt); ascending = (tt, tt); all = λ y r e. inl (sym r); far_is = λ y r. ap (each_kept keeps) r }

  -- ---- a node over parts

  module _ (c : ℕ) (l : L) (D : Cuts V → Type 0) (Q : Trees L → Type 0) where
    each_node : (E : Cut V → Type 0) (F : Cuts V → Type 0) → ((v : V) (xs : Cuts V) → l ≡ label v → F xs → E (new c v xs)) → (yss : List (Cuts V)) (zs : List (Cut V)) → AreNodes label c l yss zs → Each F yss → Each E zs
    each_node E F f [] [] n h = tt
    each_node E F f [] (z ∷ zs) n h = absurd n
    each_node E F f (ys ∷ yss) [] n h = absurd n
    each_node E F f (ys ∷ yss) (keep t ∷ zs) n h = absurd n
    each_node E F f (ys ∷ yss) (new d v xs ∷ zs) n h = (subst (λ k. E (new k v xs)) n.0 (f v xs n.1 (subst F n.2 h.0)), each_node E F f yss zs n.3 h.1)

    node_order : (v w : V) (xs ys : Cuts V) → l ≡ label v → l ≡ label w → trees_cmp order (trees_of_cuts xs) (trees_of_cuts ys) ≡ Less → tree_cmp order (node c v (trees_of_cuts xs)) (node c w (trees_of_cuts ys)) ≡ Less
    node_order v w xs ys e f g =
        ap (λ o. ordering_then (ordering_then o (order v w)) (trees_cmp order (trees_of_cuts xs) (trees_of_cuts ys))) (tied_itself nat_cmp_total c)
        ∙ (ap (λ o. ordering_then o (trees_cmp order (trees_of_cuts xs) (trees_of_cuts ys))) ((same v w).1 (sym e ∙ f)) ∙ g)

    ascending_nodes : (yss : List (Cuts V)) (zs : List (Cut V)) → AreNodes label c l yss zs → EachTwo (λ y z. trees_cmp order (trees_of_cuts y) (trees_of_cuts z) ≡ Less) yss → EachTwo (λ y z. tree_cmp order (tree_of y) (tree_of z) ≡ Less) zs
    ascending_nodes [] [] n h = tt
    ascending_nodes [] (z ∷ zs) n h = absurd n
    ascending_nodes (ys ∷ yss) [] n h = absurd n
    ascending_nodes (ys ∷ yss) (keep t ∷ zs) n h = absurd n
    ascending_nodes (ys ∷ yss) (new d v xs ∷ zs) n h = (
      each_node (λ z. tree_cmp order (node d v (trees_of_cuts xs)) (tree_of z) ≡ Less) (λ y. trees_cmp order (trees_of_cuts ys) (trees_of_cuts y) ≡ Less)
          (λ w us e g. subst (λ k. tree_cmp order (node k v (trees_of_cuts xs)) (node c w (trees_of_cuts us)) ≡ Less) n.0 (node_order v w xs us n.1 e (subst (λ p. trees_cmp order (trees_of_cuts p) (trees_of_cuts us) ≡ Less) n.2 g)))
          yss zs n.3 h.0,
      ascending_nodes yss zs n.3 h.1,
    )

    has_node : (yss : List (Cuts V)) (zs : List (Cut V)) → AreNodes label c l yss zs → (us : Trees L) → HasOf (λ ys. relabel_all label (trees_of_cuts ys)) yss us → HasOf (λ x. relabel label (tree_of x)) zs (node c l us)
    has_node [] zs n us h = absurd h
    has_node (ys ∷ yss) [] n us h = absurd n
    has_node (ys ∷ yss) (keep t ∷ zs) n us h = absurd n
    has_node (ys ∷ yss) (new d v xs ∷ zs) n us (inl e) = inl (λ i. node (sym n.0 i) (sym n.1 i) ((ap (λ x. relabel_all label (trees_of_cuts x)) (sym n.2) ∙ e) i))
    has_node (ys ∷ yss) (new d v xs ∷ zs) n us (inr h) = inr (has_node yss zs n.3 us h)

    all_nodes : (yss : List (Cuts V)) (zs : List (Cut V)) → AreNodes label c l yss zs → ((us : Trees L) → Q us → each_kept keeps us ≡ true → HasOf (λ ys. relabel_all label (trees_of_cuts ys)) yss us)
        → (u : Tree L) → NodeOver c l Q u → all_kept keeps u ≡ true → HasOf (λ x. relabel label (tree_of x)) zs u
    all_nodes yss zs n f (node d k us) r e =
        subst (HasOf (λ x. relabel label (tree_of x)) zs) (λ i. node (r.0 i) (r.1 i) us) (has_node yss zs n us (f us r.2 (and_parts (keeps k) (each_kept keeps us) e).1))

    far_nodes : keeps l ≡ true → (far : Option N) → IsFar (each_kept keeps) (SomeHasOutside Outside) Q far → IsFar (all_kept keeps) (HasOutside Outside) (NodeOver c l Q) far
    far_nodes k None h = kept_node
      where
        kept_node : (u : Tree L) → NodeOver c l Q u → all_kept keeps u ≡ true
        kept_node (node d m us) r = and_from (keeps m) (each_kept keeps us) (ap keeps (sym r.1) ∙ k) (h us r.2)
    far_nodes k (Some n) h = (node c l h.0, (refl, refl, h.1), inr h.2)

    -- a node whose label is kept
    pub nodes : keeps l ≡ true → (yss : List (Cuts V)) (zs : List (Cut V)) (far : Option N) → AreNodes label c l yss zs → ListsRows label order keeps Outside D Q yss far
        → ListsCuts label order keeps Outside (MadeOver label c l D) (NodeOver c l Q) zs far
    nodes k yss zs far n h = record {
      each = each_node (MadeOver label c l D) D (λ v xs e d. (refl, e, d)) yss zs n h.each;
      are = each_node (λ x. NodeOver c l Q (relabel label (tree_of x))) (λ ys. Q (relabel_all label (trees_of_cuts ys))) (λ v xs e q. (refl, e, q)) yss zs n h.are;
      keeps = each_node (λ x. all_kept keeps (relabel label (tree_of x)) ≡ true) (λ ys. each_kept keeps (relabel_all label (trees_of_cuts ys)) ≡ true) (λ v xs e q. and_from (keeps (label v)) (each_kept keeps (relabel_all label (trees_of_cuts xs))) (ap keeps (sym e) ∙ k) q) yss zs n h.keeps;
      ascending = ascending_nodes yss zs n h.ascending;
      all = all_nodes yss zs n h.all;
      far_is = far_nodes k far h.far_is;
    }

    not_kept : keeps l ≡ false → (u : Tree L) → NodeOver c l Q u → all_kept keeps u ≡ true → ⊥
    not_kept k (node d m us) r e = let no : false ≡ true = sym k ∙ (ap keeps r.1 ∙ (and_parts (keeps m) (each_kept keeps us) e).0) in cc

    -- a node whose label has a number outside, over parts of which there are some
    pub far_node : keeps l ≡ false → (n : N) → Outside l n → (us : Trees L) → Q us → ListsCuts label order keeps Outside (MadeOver label c l D) (NodeOver c l Q) [] (Some n)
    far_node k n o us q = far_alone _ _ _ _ (MadeOver label c l D) (NodeOver c l Q) n (not_kept k) (node c l us) (refl, refl, q) (inl o)

    -- a node over parts of which there are none
    pub no_node : ((us : Trees L) → Q us → ⊥) → ListsCuts label order keeps Outside (MadeOver label c l D) (NodeOver c l Q) [] None
    no_node f = none _ _ _ _ (MadeOver label c l D) (NodeOver c l Q) no
      where
        no : (u : Tree L) → NodeOver c l Q u → ⊥
        no (node d m us) r = f us r.2
