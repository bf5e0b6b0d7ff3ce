-- Acceptance in words of existence.
use Rattle.std.specs.Prelude.{◌≡◌, ℕ, IsTrue, List, [], ◌∷◌, All, Contains, ⊤}
use Rattle.model_tree.specs.Tree.{Tree, node, Trees, no_trees, tree}
use Rattle.model_sta.specs.Automaton.{Rule, rules_of}

module _ {L : Type 0} (rules : List (List (Rule L))) where
  abbrev mutual
    -- some rule of the state has the constructor of the tree, its guard holds of the label, and each child is accepted
    -- by every state demanded of it
    pub Accepts : Tree L → ℕ → Type 0
    Accepts (node c l ts) s = (r : Rule L) × Contains (rules_of rules s) r × (r.constructor ≡ c) × IsTrue (r.guard l) × MeetDemands ts r.demands

    pub MeetDemands : Trees L → List (List ℕ) → Type 0
    MeetDemands no_trees ds = ⊤
    MeetDemands (tree t ts) [] = ⊤
    MeetDemands (tree t ts) (d ∷ ds) = All (Accepts t) d × MeetDemands ts ds
