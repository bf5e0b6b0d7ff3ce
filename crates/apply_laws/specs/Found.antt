-- What is found of terms: that there are too many or too large outputs, or a list of them.
use Rattle.std.specs.Prelude.{ℕ, suc, ◌≡◌, ◌⊎◌, ◌*◌, ◌<◌, Bool, true, false, ◌&&◌, List, [], map, length, Option, Some, None}
use Rattle.std.specs.declared.cmp.Ordering.{Ordering}
use Rattle.model_tree.specs.Limits.{most_nodes, greatest_depth, most_outputs}
use Rattle.model_tree.specs.Tree.{Tree, Trees, node_count, node_count_all, depth, depth_all}
use Rattle.model_sta.specs.Loads.{Load, outputs, nodes, depths}
use Rattle.model_sta.specs.Sets.{Each}
use Rattle.model_sttr.specs.Cuts.{Cut, Cuts, trees_of_cuts}
use Rattle.apply_laws.specs.Lists.{EachTwo, OneOf, sum_of}
use Rattle.apply_laws.specs.Meant.{all_meant}
use Rattle.apply_laws.specs.Listing.{ListsCuts, ListsRows, AreNodes, has_some, first_some, only_if, products}

-- more than 4,096 different ones, different ones of more than 1,048,576 nodes together, or one deeper than 2,000
abbrev pub Passes : {Y : Type 0} → (Y → ℕ) → (Y → ℕ) → Load → (Y → Type 0) → Type 0
Passes {Y} size deep outputs R = (ys : List Y) × Each R ys × EachTwo (λ x y. ¬ (x ≡ y)) ys × (most_outputs < length ys)
Passes {Y} size deep nodes R = (ys : List Y) × Each R ys × EachTwo (λ x y. ¬ (x ≡ y)) ys × (most_nodes < sum_of size ys)
Passes {Y} size deep depths R = (y : Y) × R y × (greatest_depth < deep y)

pub data Found (X N : Type 0) : Type 0 where
  too_much : Load → Found X N
  listed : List X → Option N → Found X N

module _ {V L N : Type 0} (label : V → L) (order : V → V → Ordering) (keeps : L → Bool) (Outside : L → N → Type 0) where
  -- the outputs pass the load, or they are listed
  abbrev pub IsFound : (Cut V → Type 0) → (Tree L → Type 0) → Found (Cut V) N → Type 0
  IsFound C R (too_much a) = Passes node_count depth a R
  IsFound C R (listed xs far) = ListsCuts label order keeps Outside C R xs far

  abbrev pub AreFound : (Cuts V → Type 0) → (Trees L → Type 0) → Found (Cuts V) N → Type 0
  AreFound C R (too_much a) = Passes node_count_all depth_all a R
  AreFound C R (listed xs far) = ListsRows label order keeps Outside C R xs far

-- whether there is an output
abbrev pub found_some : {X N : Type 0} → Found X N → Bool
found_some (too_much a) = true
found_some (listed xs far) = has_some xs far

-- too much of the same where there is any, and else nothing
abbrev pub StillTooMuch : {X N : Type 0} → Load → Bool → Found X N → Type 0
StillTooMuch a true (too_much b) = a ≡ b
StillTooMuch a true (listed xs far) = ⊥
StillTooMuch a false (too_much b) = ⊥
StillTooMuch a false (listed xs far) = (xs ≡ []) × (far ≡ None)

module _ {V L N : Type 0} (label : V → L) where
  -- what is found of a part before parts, of which the first are found to be xs and the others yss
  abbrev pub IsProductOf : List (Cut V) → Option N → List (Cuts V) → Option N → Found (Cuts V) N → Type 0
  IsProductOf xs a yss b (too_much outputs) = most_outputs < length xs * length yss
  IsProductOf xs a yss b (too_much nodes) = most_nodes < sum_of (λ zs. node_count_all (trees_of_cuts zs)) (products xs yss)
  IsProductOf xs a yss b (too_much depths) = ⊥
  IsProductOf xs a yss b (listed zss far) = (map (all_meant label) zss ≡ map (all_meant label) (products xs yss)) × (far ≡ only_if (has_some xs a && has_some yss b) (first_some a b))

  -- where either has no output nothing is found, and else too much of either stays too much
  abbrev pub IsProduct : Found (Cut V) N → Found (Cuts V) N → Found (Cuts V) N → Type 0
  IsProduct (too_much a) q r = StillTooMuch a (found_some q) r
  IsProduct (listed xs a) (too_much b) r = StillTooMuch b (has_some xs a) r
  IsProduct (listed xs a) (listed yss b) r = IsProductOf xs a yss b r

module _ {V L N : Type 0} (label : V → L) (keeps : L → Bool) (Outside : L → N → Type 0) where
  -- a number of the label, where there are parts
  abbrev pub IsFarNode : L → Bool → Option N → Type 0
  IsFarNode l false b = b ≡ None
  IsFarNode l true None = ⊥
  IsFarNode l true (Some n) = Outside l n

  -- what is found of a node with the label over parts
  abbrev pub IsNodeFound : ℕ → L → Found (Cuts V) N → Found (Cut V) N → Type 0
  IsNodeFound c l (too_much a) (too_much b) = a ≡ b
  IsNodeFound c l (too_much a) (listed zs b) = ⊥
  IsNodeFound c l (listed yss a) (too_much outputs) = ⊥
  IsNodeFound c l (listed yss a) (too_much nodes) = most_nodes < sum_of (λ ys. suc (node_count_all (trees_of_cuts ys))) yss
  IsNodeFound c l (listed yss a) (too_much depths) = OneOf (λ ys. greatest_depth < suc (depth_all (trees_of_cuts ys))) yss
  IsNodeFound c l (listed yss a) (listed zs b) =
      ((keeps l ≡ true) × AreNodes label c l yss zs × (b ≡ a))
      ⊎ ((keeps l ≡ false) × (zs ≡ []) × IsFarNode l (has_some yss a) b)
