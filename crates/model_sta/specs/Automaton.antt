-- Alternating tree automata over labels of any type: which trees a state accepts.
use Rattle.std.specs.Prelude.{ℕ, Bool, true, ◌&&◌, ◌==◌, List, [], ◌∷◌, get_or}
use Rattle.std.specs.List.{list_any, list_all}
use Rattle.model_tree.specs.Tree.{Tree, node, Trees, no_trees, tree}

-- a constructor's number, a guard on the label, and for each child the states that must accept it
pub record Rule (L : Type 0) : Type 0 where
  pub constructor : ℕ
  pub guard : L → Bool
  pub demands : List (List ℕ)

module _ {L : Type 0} where
  -- each state's rules, by the state's number
  abbrev pub rules_of : List (List (Rule L)) → ℕ → List (Rule L)
  rules_of rules s = get_or rules s []

module _ {L : Type 0} (rules : List (List (Rule L))) where
  abbrev mutual
    -- some rule of the state has the constructor, its guard holds, and each child meets its demands
    pub is_accepted : Tree L → ℕ → Bool
    is_accepted (node c l ts) s = list_any (λ r. (r.constructor == c) && (r.guard l && meet_demands ts r.demands)) (rules_of rules s)

    pub meet_demands : Trees L → List (List ℕ) → Bool
    meet_demands no_trees ds = true
    meet_demands (tree t ts) [] = true
    meet_demands (tree t ts) (d ∷ ds) = list_all (is_accepted t) d && meet_demands ts ds

  -- whether the rule has the tree's constructor, its guard holds, and each child meets its demands
  abbrev pub rule_applies : Tree L → Rule L → Bool
  rule_applies (node c l ts) r = (r.constructor == c) && (r.guard l && meet_demands ts r.demands)
