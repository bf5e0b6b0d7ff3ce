-- What is said of trees that are asked for.
use Rattle.std.specs.Prelude.{◌≡◌, ℕ, ◌≤◌, ◌<◌, Bool, true, not, cond, ◌&&◌, List}
use Rattle.model_tree.specs.Limits.{most_nodes}
use Rattle.model_tree.specs.Label.{Label}
use Rattle.model_tree.specs.Tree.{LabelTree, relabel, node_count, depth}
use Rattle.model_sta.specs.Sets.{Row, has, Fits}
use Rattle.label_core.specs.Meaning.{Meaning}
use Rattle.sta_ops.specs.declared.emptiness.Asked.{Asked}
use Rattle.sta_ops.specs.declared.emptiness.Asked.TheVariants.{Has, Two}
use Rattle.sta_ops.specs.declared.emptiness.Wanted.{Wanted}
use Rattle.sta_ops.specs.declared.emptiness.Wanted.TheVariants.{One, First, Both}
use Rattle.sta_ops.specs.declared.emptiness.Found.{Found}
use Rattle.sta_ops.specs.declared.emptiness.Found.TheVariants.{Absent, Shown, TooBig}

-- exactly one of both
abbrev pub differ : Bool → Bool → Bool
differ a b = cond a (not b) b

-- whether a tree that the first of two has or lacks, and the second, is wanted: in exactly one, in the first alone, or in both
abbrev pub is_wanted : Wanted → Bool → Bool → Bool
is_wanted One a b = differ a b
is_wanted First a b = a && not b
is_wanted Both a b = a && b

-- whether a set of states has what is asked: a state, or what is wanted of two
abbrev pub has_asked : Asked → Row → Bool
has_asked (Has s) q = has q s
has_asked (Two wanted s t) q = is_wanted wanted (has q s) (has q t)

module _ (ranks : List ℕ) (D keeps : Label → Type 0) (member : LabelTree → Bool) where
  -- a tree that is asked for, over all labels of the meaning
  pub record IsAskedTree (t : LabelTree) : Type 0 where
    pub fits : Fits ranks D t
    pub accepted : member t ≡ true

  -- A tree of kept labels that is asked for, with the least number of nodes of all that are.
  pub record IsLeastAsked (most : ℕ) (t : LabelTree) : Type 0 where
    pub fits : Fits ranks keeps t
    pub accepted : member t ≡ true
    pub least : (u : LabelTree) → IsAskedTree u → node_count t ≤ node_count u
    pub small : node_count t ≤ most_nodes
    pub shallow : depth t ≤ most

  -- there are trees that are asked for, and each has more nodes than one that is shown
  pub record HasBigAsked : Type 0 where
    pub tree : LabelTree
    pub right : IsAskedTree tree
    pub big : (t : LabelTree) → IsAskedTree t → most_nodes < node_count t

module _ {A V W : Type 0} {label_of : V → Label} {holds : A → Label → Bool} (M : Meaning label_of holds W) (ranks : List ℕ) (member : LabelTree → Bool) (most : ℕ) where
  abbrev pub IsAnswer : Found V → Type 0
  IsAnswer Absent = (t : LabelTree) → ¬ (IsAskedTree ranks M.has M.keeps member t)
  IsAnswer (Shown tree) = IsLeastAsked ranks M.has M.keeps member most (relabel label_of tree)
  IsAnswer TooBig = HasBigAsked ranks M.has M.keeps member
