-- Rules of transformations that meet.
use Rattle.std.specs.Prelude.{◌≡◌, ◌≤◌, ℕ, Bool, true, false, List, [], ◌∷◌, Some, get_or}
use Rattle.model_tree.specs.Limits.{most_nodes, greatest_depth}
use Rattle.model_tree.specs.Tree.{LabelTree, relabel, node_count, depth}
use Rattle.model_tree.specs.Kept.{is_kept}
use Rattle.model_program.specs.Syntax.{Name}
use Rattle.model_grammar.specs.Syntax.{named, Item}
use Rattle.model_meaning.specs.Types.{input_of}
use Rattle.model_meaning.specs.Meaning.{signature_named}
use Rattle.model_run.specs.Plain.{Meet}
use Rattle.model_run.specs.Parts.{HasMoreTrees}
use Rattle.model_run.specs.Causes.{AreAllLarge, IsTooWide}
use Rattle.fast_tree.specs.declared.label.Label.{Label}
use Rattle.fast_tree.specs.Entries.{label_meaning}
use Rattle.lin_solve.specs.declared.chain.Chain.{Chain}
use Rattle.lin_solve.specs.Shown.{bits_of}
use Rattle.sta_classes.specs.declared.stop.ClassStop.{ClassStop}
use Rattle.sta_classes.specs.declared.stop.ClassStop.TheVariants.{Classes, Wide, Memory}
use Rattle.sttr_single.specs.declared.meetings.Meeting as single
use Rattle.fast_compose.specs.declared.stops.Meeting.{Meeting}
use Rattle.fast_compose.specs.declared.meetings.Met.{Met}
use Rattle.fast_compose.specs.declared.meetings.Met.TheVariants.{Nowhere, At, TooLarge}

abbrev pub tree_of : Meeting → LabelTree
tree_of m = relabel label_meaning m.tree

-- the same meeting, of the state with this name
pub record IsMeetingFor (names : List (List ℕ)) (of : List ℕ) (own : single.Meeting Label) (m : Meeting) : Type 0 where
  pub name : m.name ≡ get_or names own.state []
  pub first : m.first ≡ own.first
  pub second : m.second ≡ own.second
  pub type : m.of ≡ of
  pub tree : m.tree ≡ own.tree

-- what two together show: a meeting, else trees that are too large
abbrev pub graver_of : Met → Met → Met
graver_of (At m) other = At m
graver_of Nowhere other = other
graver_of TooLarge Nowhere = TooLarge
graver_of TooLarge (At m) = At m
graver_of TooLarge TooLarge = TooLarge

abbrev pub is_at : Met → Bool
is_at Nowhere = false
is_at (At m) = true
is_at TooLarge = false

module _ (items : List Item) where
  -- rules of one of these transformations meet at the tree, which may be shown if its texts are of Unicode scalars
  pub record IsMeeting (R : List ℕ → Type 0) (m : Meeting) : Type 0 where
    pub reached : R m.name
    pub meet : Meet items m.name m.first m.second (tree_of m)
    pub type : signature_named items (Some m.of) ≡ input_of items m.name
    pub kept : is_kept (tree_of m) ≡ true
    pub small : node_count (tree_of m) ≤ most_nodes
    pub shallow : depth (tree_of m) ≤ greatest_depth

  -- rules of one of them meet at the tree
  abbrev pub MeetSome : (List ℕ → Type 0) → LabelTree → Type 0
  MeetSome R t = (q : List ℕ) × R q × (i j : ℕ) × Meet items q i j t

  abbrev pub IsMet : (List ℕ → Type 0) → Met → Type 0
  IsMet R Nowhere = (t : LabelTree) → ¬ (MeetSome R t)
  IsMet R (At m) = IsMeeting R m
  IsMet R TooLarge = AreAllLarge (MeetSome R)

  -- the name tells more trees apart than the limit, or a chain over its comparisons is too wide
  abbrev pub StopsMeeting : List ℕ → ℕ → ClassStop Chain → Type 0
  StopsMeeting name limit Classes = (n : Name) → n.text ≡ name → HasMoreTrees items (named n ∷ []) limit
  StopsMeeting name limit (Wide c) = (n : Name) → n.text ≡ name → IsTooWide items (named n ∷ []) (bits_of c.width)
  StopsMeeting name limit Memory = Unit {0}
