-- Rules that apply where two rules of a state do.
use Rattle.std.specs.Prelude.{ℕ, ◌≡◌, ◌<◌, ◌≤◌, ◌⊎◌, ◌&&◌, Bool, true, List, [], ◌∷◌, ◌++◌, map, length, get_or, Contains}
use Rattle.model_tree.specs.Label.{Label}
use Rattle.model_tree.specs.Tree.{LabelTree}
use Rattle.model_tree.specs.Formula.{Formula, all_of, formulas_of, formula_holds}
use Rattle.model_sta.specs.Automaton.{rule_applies}
use Rattle.model_sta.specs.Sets.{Fits}
use Rattle.model_sttr.specs.Plain.{PlainOut}
use Rattle.sta_core.specs.Machine.{Machine, PlainRule, plain_rule}
use Rattle.sta_core.specs.Sta.{automaton_of, rule_meaning}
use Rattle.sttr_core.specs.Machine.{OutMachine}
use Rattle.sttr_single.specs.Overlap.{AreUnlike}
use Rattle.sttr_single.specs.declared.joints.Joint.{Joint}

-- some state has a number that isn't below the bound
abbrev pub HasHigh : ℕ → List ℕ → Type 0
HasHigh bound states = (x : ℕ) × Contains states x × (bound ≤ x)

-- the guard that holds where both do
abbrev pub both_hold : {A : Type 0} → Formula A → Formula A → Formula A
both_hold f g = all_of (formulas_of (f ∷ g ∷ []))

-- of the labels of D none has both guards
abbrev pub AreApart : {A : Type 0} → (A → Label → Bool) → (Label → Type 0) → Formula A → Formula A → Type 0
AreApart holds D f g = (l : Label) → D l → ¬ (formula_holds (λ a. holds a l) (both_hold f g) ≡ true)

module _ {A : Type 0} (r s : PlainRule A) where
  -- what both demand of child j
  abbrev pub joined_at : ℕ → List ℕ
  joined_at j = get_or r.demands j [] ++ get_or s.demands j []

  -- of each of n children
  pub record AreJoined (n : ℕ) (demands : List (List ℕ)) : Type 0 where
    pub long : length demands ≡ n
    pub each : (j : ℕ) → j < n → get_or demands j [] ≡ joined_at j

  module _ (looks : Machine A) where
    -- no node of the type has the first rule's constructor, or both demand a state of a child that there isn't
    abbrev pub AreNowhere : Type 0
    AreNowhere = (length looks.ranks ≤ r.constructor) ⊎ ((j : ℕ) × (j < get_or looks.ranks r.constructor 0) × HasHigh (length looks.rules) (joined_at j))

    -- what both demand of each child of a node of the type, which are states that there are
    pub record AreJoinedFor (demands : List (List ℕ)) : Type 0 where
      pub low : r.constructor < length looks.ranks
      pub joined : AreJoined (get_or looks.ranks r.constructor 0) demands
      pub own : (d : List ℕ) → Contains demands d → (x : ℕ) → Contains d x → x < length looks.rules

    -- the rule has the constructor and the guards of both, and demands what both do
    pub record IsJoint (p : PlainRule A) : Type 0 where
      pub same : s.constructor ≡ r.constructor
      pub constructor_is : p.constructor ≡ r.constructor
      pub guard_is : p.guard ≡ both_hold r.guard s.guard
      pub demands_are : AreJoinedFor p.demands

    -- both apply to no tree of the type over labels of D
    abbrev pub NeverMeet : (A → Label → Bool) → (Label → Type 0) → Type 0
    NeverMeet holds D =
        (t : LabelTree) → Fits looks.ranks D t → ¬ ((rule_applies (automaton_of holds looks) t (rule_meaning holds r) && rule_applies (automaton_of holds looks) t (rule_meaning holds s)) ≡ true)

module _ {A M : Type 0} (holds : A → Label → Bool) (map_eq : M → M → Bool) (D : Label → Type 0) (f : OutMachine A M) where
  -- the joint is of two unlike rules
  pub record IsJointOf (x : Joint A) : Type 0 where
    pub first : PlainOut (PlainRule A) M
    pub second : PlainOut (PlainRule A) M
    pub unlike : AreUnlike holds map_eq f x.place.state x.place.first x.place.second first second
    pub joint : IsJoint first.rule second.rule f.looks (plain_rule x.rule)

  -- the rules have a joint among these
  pub record HasJoint (xs : List (Joint A)) (r s : PlainOut (PlainRule A) M) : Type 0 where
    pub it : Joint A
    pub there : Contains xs it
    pub joint : IsJoint r.rule s.rule f.looks (plain_rule it.rule)

  -- joints of unlike rules; and two at wanted places have one, or never meet
  pub record AreJoints (Wanted : ℕ → ℕ → ℕ → Type 0) (xs : List (Joint A)) : Type 0 where
    pub sound : (x : Joint A) → Contains xs x → IsJointOf x
    pub complete : (q i j : ℕ) (r s : PlainOut (PlainRule A) M) → Wanted q i j → AreUnlike holds map_eq f q i j r s → HasJoint xs r s ⊎ NeverMeet r.rule s.rule f.looks holds D

  -- those at wanted places are put behind the others
  abbrev pub AddsJoints : (ℕ → ℕ → ℕ → Type 0) → List (Joint A) → List (Joint A) → Type 0
  AddsJoints Wanted old new = (more : List (Joint A)) × (new ≡ old ++ more) × AreJoints Wanted more

-- the rules of these joints
abbrev pub rules_in : {A : Type 0} → List (Joint A) → List (PlainRule A)
rules_in xs = map (λ x. plain_rule x.rule) xs

-- each rule demands states of the automaton alone
abbrev pub DemandsOwn : {A : Type 0} → Machine A → Type 0
DemandsOwn {A} looks = (rs : List (PlainRule A)) → Contains looks.rules rs → (r : PlainRule A) → Contains rs r → (d : List ℕ) → Contains r.demands d → (x : ℕ) → Contains d x → x < length looks.rules

-- the automaton with more states behind its own
abbrev pub with_more : {A : Type 0} → Machine A → List (List (PlainRule A)) → Machine A
with_more looks more = record { ranks = looks.ranks; rules = looks.rules ++ more }

-- one state for all joints, or one for each
abbrev pub with_one : {A : Type 0} → Machine A → List (Joint A) → Machine A
with_one looks xs = with_more looks (rules_in xs ∷ [])

abbrev pub with_each : {A : Type 0} → Machine A → List (Joint A) → Machine A
with_each looks xs = with_more looks (map (λ x. plain_rule x.rule ∷ []) xs)

-- whether the joint's rule applies to the tree
abbrev pub joint_applies : {A : Type 0} → (A → Label → Bool) → Machine A → LabelTree → Joint A → Bool
joint_applies holds looks t x = rule_applies (automaton_of holds looks) t (rule_meaning holds (plain_rule x.rule))
