-- An automaton with a state for the trees that a state doesn't accept.
use Rattle.std.specs.Prelude.{ℕ, ◌≡◌, ◌<◌, ◌≤◌, ◌⊎◌, ◌↔◌, Bool, true, false, cond, not, List, [], get_or, length, Contains}
use Rattle.std.specs.List.{list_any}
use Rattle.model_sta.specs.Automaton.{Rule, rules_of}
use Rattle.model_sta.specs.Sets.{Row, has, fires, Each}

module _ {L : Type 0} where
  -- the sets before the place have what the rule demands of them
  abbrev pub IsMetBefore : ℕ → List Row → Rule L → Type 0
  IsMetBefore j qs r = (i : ℕ) → i < j → (s : ℕ) → Contains (get_or r.demands i []) s → has (get_or qs i []) s ≡ true

  -- a rule of the constructor that may still apply demands the state at the place
  abbrev pub IsAsked : List (Rule L) → ℕ → List Row → ℕ → ℕ → Type 0
  IsAsked rs c qs j s = (r : Rule L) × Contains rs r × (r.constructor ≡ c) × IsMetBefore j qs r × Contains (get_or r.demands j []) s

  -- as many sets, and of the states that are asked for over the first ones both have the same
  abbrev pub AnswerAlike : List (Rule L) → ℕ → List Row → List Row → Type 0
  AnswerAlike rs c qs us = (length qs ≡ length us) × ((j : ℕ) → j < length qs → (s : ℕ) → IsAsked rs c qs j s → has (get_or qs j []) s ≡ has (get_or us j []) s)

-- s, or "not s", which is the state with the number opp s
abbrev pub signed : (ℕ → ℕ) → Bool → ℕ → ℕ
signed opp sign s = cond sign s (opp s)

module _ {L : Type 0} (opp : ℕ → ℕ) where
  module _ (rs : List (Rule L)) where
    -- The rule says that none of the rules rs applies to children that answer as the sets qs do: of the states that are asked
    -- for each child is to have those that its set has, and "not s" for each other one, and none of rs fires over the sets.
    pub record IsOpposite (c : ℕ) (qs : List Row) (r : Rule L) : Type 0 where
      pub constructor_is : r.constructor ≡ c
      pub demands_are : (j : ℕ) → j < length qs → (x : ℕ) → Contains (get_or r.demands j []) x ↔ ((s : ℕ) × IsAsked rs c qs j s × (x ≡ signed opp (has (get_or qs j []) s) s))
      pub guard_is : (l : L) → r.guard l ≡ not (list_any (fires c l qs) rs)

    -- Each rule is for some sets, and each list of known sets has a rule for sets that answer alike, unless over each label
    -- one of rs applies.
    pub record AreOpposites (ranks : List ℕ) (known : List Row) (those : List (Rule L)) : Type 0 where
      pub sound : (r : Rule L) → Contains those r → (c : ℕ) × (qs : List Row) × (length qs ≡ get_or ranks c 0) × IsOpposite c qs r
      pub complete : (c : ℕ) → c < length ranks → (us : List Row) → Each (Contains known) us → length us ≡ get_or ranks c 0 → (l : L) → list_any (fires c l us) rs ≡ false
          → (r : Rule L) × Contains those r × (qs : List Row) × IsOpposite c qs r × AnswerAlike rs c qs us

  -- the states as they are, and for each state s another one for "not s" where none of them is the opposite of s
  pub record IsDoubled (ranks : List ℕ) (known : List Row) (rules doubled : List (List (Rule L))) : Type 0 where
    pub more : length rules ≤ length doubled
    pub same : (s : ℕ) → s < length rules → rules_of doubled s ≡ rules_of rules s
    pub low : (s : ℕ) → s < length rules → opp s < length doubled
    pub opposite : (s : ℕ) → s < length rules
        → ((opp s < length rules) × ((q : Row) → Contains known q → has q (opp s) ≡ not (has q s))) ⊎ AreOpposites (rules_of rules s) ranks known (rules_of doubled (opp s))
    pub each_new : (q : ℕ) → length rules ≤ q → q < length doubled → (s : ℕ) × (s < length rules) × (q ≡ opp s) × AreOpposites (rules_of rules s) ranks known (rules_of doubled q)
