-- A tree where rules are shown to meet.
use Rattle.std.specs.Prelude.{ℕ, ◌≡◌, ◌≤◌, ◌<◌, Bool, true, false, List, Contains}
use Rattle.model_tree.specs.Label.{Label}
use Rattle.model_tree.specs.Tree.{Tree, relabel}
use Rattle.model_sta.specs.Sets.{Row, has}
use Rattle.sta_core.specs.Machine.{Machine}
use Rattle.sttr_single.specs.declared.joints.Joint.{Joint}
use Rattle.sttr_single.specs.declared.meetings.Meeting.{Meeting}
use Rattle.sttr_single.specs.Joints.{joint_applies}

-- the first state in the row of those from one below another, if there is one
abbrev pub HasNoneFrom : Row → ℕ → ℕ → Type 0
HasNoneFrom row from end = (s : ℕ) → from ≤ s → s < end → has row s ≡ false

abbrev pub IsOneFrom : Row → ℕ → ℕ → ℕ → Type 0
IsOneFrom row from end s = (from ≤ s) × (s < end) × (has row s ≡ true)

-- a joint of these applies to the tree, and its rules are named
pub record IsShownBy {A V : Type 0} (holds : A → Label → Bool) (label_of : V → Label) (looks : Machine A) (joints : List (Joint A)) (tree : Tree V) (m : Meeting V) : Type 0 where
  pub joint : Joint A
  pub there : Contains joints joint
  pub applies : joint_applies holds looks (relabel label_of tree) joint ≡ true
  pub state_is : m.state ≡ joint.place.state
  pub first_is : m.first ≡ joint.place.first
  pub second_is : m.second ≡ joint.place.second
  pub tree_is : m.tree ≡ tree
