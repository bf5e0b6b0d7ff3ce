-- Nodes over children of some blocks.
use Rattle.std.specs.Prelude.{ℕ, ◌≡◌, ◌<◌, Bool, List, [], map, length, get_or}
use Rattle.model_tree.specs.Label.{Label}
use Rattle.sta_classes.specs.Plain.{PlainTable}
use Rattle.sta_min.specs.Heads.{PlainHead}
use Rattle.sta_min.specs.Targets.{AreTargets}
use Rattle.sta_min.specs.declared.parents.Parents.{Parents}

pub record PlainParents : Type 0 where
  pub constructor : ℕ
  pub children : List ℕ
  pub demands : List (List ℕ)
  pub targets : List ℕ

abbrev pub plain_parents : Parents → PlainParents
plain_parents p = record { constructor = p.constructor; children = p.children.items; demands = map (λ d. d.items) p.demands.items; targets = p.targets.items }

module _ {A V : Type 0} (label_of : V → Label) (holds : A → Label → Bool) (t : PlainTable A V) (values : List (List V)) (firsts : List ℕ) where
  -- the children have the first classes of the head's blocks, and the nodes over them exactly the target classes
  pub record AreParentsOf (h : PlainHead) (p : PlainParents) : Type 0 where
    pub constructor_is : p.constructor ≡ h.constructor
    pub children_are : p.children ≡ map (λ k. get_or firsts k 0) h.blocks
    pub demands_are : p.demands ≡ h.demands
    pub targets : AreTargets label_of holds t p.constructor p.children (get_or values p.constructor []) p.targets

  -- those of the first n heads
  pub record AreAllParents (heads : List PlainHead) (n : ℕ) (parents : List PlainParents) : Type 0 where
    pub many : length parents ≡ n
    pub each : (i : ℕ) → i < n → (h : PlainHead) → get_or heads i h ≡ h → (p : PlainParents) → get_or parents i p ≡ p → AreParentsOf h p
