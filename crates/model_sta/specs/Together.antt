-- Laws of what is said of several trees, and of two automata together.
use Rattle.std.specs.Prelude.{ℕ, ◌+◌, ◌≡◌, ◌<◌, ◌↔◌, Bool, IsTrue, List, length}
use Rattle.std.specs.Cmp.{IsTotalOrder}
use Rattle.std.specs.declared.cmp.Ordering.{Ordering}
use Rattle.std.specs.declared.cmp.Ordering.TheVariants.{Equal}
use Rattle.model_tree.specs.Tree.{Tree, relabel}
use Rattle.model_tree.specs.TreeOrder.{tree_cmp}
use Rattle.model_sta.specs.Automaton.{Rule, is_accepted}
use Rattle.model_sta.specs.Sets.{Fits}
use Rattle.model_sta.specs.Reached.{HasMoreSets}
use Rattle.model_sta.specs.Operations.{AgreeIn}
use Rattle.model_sta.specs.Told.{AreTold, AreToldByEither, AgreeInBoth, HasMoreApart, IsBeside, AreOwn}

-- labels that a test tells
abbrev Tested : {L : Type 0} → (L → Bool) → L → Type 0
Tested d l = IsTrue (d l)

-- more sets are more trees that states tell apart
abbrev pub SetsAreTold : Type 0 → Type 0
SetsAreTold L = (ranks : List ℕ) (d : L → Bool) (rules : List (List (Rule L))) (most : ℕ) → HasMoreSets ranks (Tested d) rules most → HasMoreApart (Fits ranks (Tested d)) (AreTold rules) most

-- In one list the rules of two automata accept what they did, tell apart what a state of either does, and have the guards of both.
pub record AreTogether {L : Type 0} (first second rules : List (List (Rule L))) : Type 0 where
  pub firsts : (t : Tree L) (s : ℕ) → s < length first → is_accepted rules t s ≡ is_accepted first t s
  pub seconds : (t : Tree L) (s : ℕ) → s < length second → is_accepted rules t (length first + s) ≡ is_accepted second t s
  pub told : (s t : Tree L) → AreTold rules s t → AreToldByEither first second s t
  pub agree : (l m : L) → AgreeInBoth first second l m → AgreeIn rules l m

abbrev pub BesideIsTogether : Type 0 → Type 0
BesideIsTogether L = (first second rules : List (List (Rule L))) → AreOwn first → AreOwn second → IsBeside first second rules → AreTogether first second rules

-- the order of trees is total, and only trees with the same labels compare equal
abbrev pub TreesAreOrdered : Type 0 → Type 0
TreesAreOrdered V = (cmp : V → V → Ordering) → IsTotalOrder cmp → IsTotalOrder (tree_cmp cmp)

abbrev pub EqualTreesAreSame : Type 0 → Type 0 → Type 0
EqualTreesAreSame V L = (cmp : V → V → Ordering) (label : V → L) → IsTotalOrder cmp → ((v w : V) → (cmp v w ≡ Equal) ↔ (label v ≡ label w))
    → (t u : Tree V) → (tree_cmp cmp t u ≡ Equal) ↔ (relabel label t ≡ relabel label u)
