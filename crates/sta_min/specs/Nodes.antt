-- Which classes the nodes over a class have.
use Rattle.std.specs.Prelude.{ℕ, ◌≡◌, ◌<◌, Bool, List, [], set, get_or, length, All}
use Rattle.model_tree.specs.Label.{Label}
use Rattle.sta_classes.specs.Plain.{PlainTable}
use Rattle.sta_min.specs.Probes.{PlainProbe}
use Rattle.sta_min.specs.Steps.{IsClassOf}

-- the probe has a value, and known classes for the children
pub record IsGood {A V : Type 0} (t : PlainTable A V) (values : List (List V)) (p : PlainProbe) : Type 0 where
  pub low : p.constructor < length t.machine.ranks
  pub value : p.value < length (get_or values p.constructor [])
  pub wide : length p.children ≡ get_or t.machine.ranks p.constructor 0
  pub within : p.place < length p.children
  pub known : All (λ k. k < length t.found) p.children

module _ {A V : Type 0} (label_of : V → Label) (holds : A → Label → Bool) (t : PlainTable A V) (values : List (List V)) where
  -- the probe's node over the class has this class
  abbrev pub IsNodeWith : ℕ → PlainProbe → ℕ → Type 0
  IsNodeWith class p k = (v : V) → get_or (get_or values p.constructor []) p.value v ≡ v → IsClassOf holds t p.constructor (label_of v) (set p.children p.place class) k

  module _ (probes : List PlainProbe) where
    -- the first n probes' nodes over the class have these classes
    pub record AreNodesOver (class n : ℕ) (nodes : List ℕ) : Type 0 where
      pub many : length nodes ≡ n
      pub each : (i : ℕ) → i < n → (p : PlainProbe) → get_or probes i p ≡ p → IsNodeWith class p (get_or nodes i 0)

    -- the same for each of the first n classes
    pub record AreAllNodes (n : ℕ) (nodes : List (List ℕ)) : Type 0 where
      pub many : length nodes ≡ n
      pub each : (k : ℕ) → k < n → AreNodesOver k (length probes) (get_or nodes k [])
