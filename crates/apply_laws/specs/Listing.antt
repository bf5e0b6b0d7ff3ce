-- Lists of outputs: exactly those that are kept, in order, each once; and a number of an output that isn't kept.
use Rattle.std.specs.Prelude.{ℕ, zero, suc, ◌≡◌, ◌⊎◌, Bool, true, false, ◌&&◌, List, [], ◌∷◌, ◌++◌, map, Option, Some, None, ⊤}
use Rattle.std.specs.declared.cmp.Ordering.{Ordering}
use Rattle.std.specs.declared.cmp.Ordering.TheVariants.{Less}
use Rattle.model_tree.specs.Tree.{Tree, node, Trees, no_trees, tree, relabel, relabel_all}
use Rattle.model_tree.specs.TreeOrder.{tree_cmp, trees_cmp}
use Rattle.model_sta.specs.Sets.{Each}
use Rattle.model_sttr.specs.Cuts.{Cut, keep, new, Cuts, no_cuts, cut, tree_of, trees_of_cuts}
use Rattle.apply_laws.specs.Lists.{EachTwo, HasOf}

module _ {L : Type 0} (keeps : L → Bool) where
  abbrev mutual
    -- each label is kept
    pub all_kept : Tree L → Bool
    all_kept (node c l ts) = keeps l && each_kept ts

    pub each_kept : Trees L → Bool
    each_kept no_trees = true
    each_kept (tree t ts) = all_kept t && each_kept ts

module _ {L N : Type 0} (Outside : L → N → Type 0) where
  abbrev mutual
    -- the number is outside the range and one of a label of the tree
    pub HasOutside : Tree L → N → Type 0
    HasOutside (node c l ts) n = Outside l n ⊎ SomeHasOutside ts n

    pub SomeHasOutside : Trees L → N → Type 0
    SomeHasOutside no_trees n = ⊥
    SomeHasOutside (tree t ts) n = HasOutside t n ⊎ SomeHasOutside ts n

-- what is told of outputs that aren't kept: a number that one of them has, or that all are kept
module _ {Y N : Type 0} (kept : Y → Bool) (Outside : Y → N → Type 0) (R : Y → Type 0) where
  abbrev pub IsFar : Option N → Type 0
  IsFar (Some n) = (y : Y) × R y × Outside y n
  IsFar None = (y : Y) → R y → kept y ≡ true

-- X is what is listed, Y what it stands for; C is what is said of each that is listed, R holds of the outputs
module _ {X Y N : Type 0} (of : X → Y) (cmp : X → X → Ordering) (kept : Y → Bool) (Outside : Y → N → Type 0) where
  pub record IsListing (C : X → Type 0) (R : Y → Type 0) (xs : List X) (far : Option N) : Type 0 where
    pub each : Each C xs
    pub are : Each (λ x. R (of x)) xs
    pub keeps : Each (λ x. kept (of x) ≡ true) xs
    pub ascending : EachTwo (λ x y. cmp x y ≡ Less) xs
    pub all : (y : Y) → R y → kept y ≡ true → HasOf of xs y
    pub far_is : IsFar kept Outside R far

-- whether there is any output
abbrev pub has_some : {X N : Type 0} → List X → Option N → Bool
has_some [] None = false
has_some [] (Some n) = true
has_some (x ∷ xs) far = true

abbrev pub first_some : {N : Type 0} → Option N → Option N → Option N
first_some None b = b
first_some (Some n) b = Some n

-- the number, if the test holds
abbrev pub only_if : {N : Type 0} → Bool → Option N → Option N
only_if false far = None
only_if true far = far

-- one before another
abbrev pub Both : {V : Type 0} → (Cut V → Type 0) → (Cuts V → Type 0) → Cuts V → Type 0
Both C D no_cuts = ⊥
Both C D (cut x xs) = C x × D xs

abbrev pub BothTrees : {L : Type 0} → (Tree L → Type 0) → (Trees L → Type 0) → Trees L → Type 0
BothTrees P Q no_trees = ⊥
BothTrees P Q (tree t ts) = P t × Q ts

-- a node over such
abbrev pub NodeOver : {L : Type 0} → ℕ → L → (Trees L → Type 0) → Tree L → Type 0
NodeOver c l Q (node d k us) = (c ≡ d) × (l ≡ k) × Q us

abbrev pub MadeOver : {V L : Type 0} → (V → L) → ℕ → L → (Cuts V → Type 0) → Cut V → Type 0
MadeOver label c l D (keep t) = ⊥
MadeOver label c l D (new d v xs) = (c ≡ d) × (l ≡ label v) × D xs

-- the child as it is, if there is one
abbrev pub kept_at : {V : Type 0} → Trees V → ℕ → List (Cut V)
kept_at no_trees j = []
kept_at (tree t ts) zero = keep t ∷ []
kept_at (tree t ts) (suc j) = kept_at ts j

-- each cut of the first before each list of cuts of the second, in order
abbrev pub products : {V : Type 0} → List (Cut V) → List (Cuts V) → List (Cuts V)
products [] yss = []
products (x ∷ xs) yss = map (cut x) yss ++ products xs yss

module _ {V L N : Type 0} (label : V → L) (order : V → V → Ordering) (keeps : L → Bool) (Outside : L → N → Type 0) where
  -- cuts, by the trees of the meaning that they stand for
  abbrev pub ListsCuts : (Cut V → Type 0) → (Tree L → Type 0) → List (Cut V) → Option N → Type 0
  ListsCuts C R xs far = IsListing (λ x. relabel label (tree_of x)) (λ x y. tree_cmp order (tree_of x) (tree_of y)) (all_kept keeps) (HasOutside Outside) C R xs far

  abbrev pub ListsRows : (Cuts V → Type 0) → (Trees L → Type 0) → List (Cuts V) → Option N → Type 0
  ListsRows C R xs far = IsListing (λ x. relabel_all label (trees_of_cuts x)) (λ x y. trees_cmp order (trees_of_cuts x) (trees_of_cuts y)) (each_kept keeps) (SomeHasOutside Outside) C R xs far

-- new nodes over these rows, each with a label of its own that stands for l
abbrev pub AreNodes : {V L : Type 0} → (V → L) → ℕ → L → List (Cuts V) → List (Cut V) → Type 0
AreNodes label c l [] [] = ⊤
AreNodes label c l [] (z ∷ zs) = ⊥
AreNodes label c l (ys ∷ yss) [] = ⊥
AreNodes label c l (ys ∷ yss) (keep t ∷ zs) = ⊥
AreNodes label c l (ys ∷ yss) (new d v xs ∷ zs) = (c ≡ d) × (l ≡ label v) × (ys ≡ xs) × AreNodes label c l yss zs
