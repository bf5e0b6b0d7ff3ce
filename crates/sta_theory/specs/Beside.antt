-- A state for what either or both of two states accept, behind the states of both automata.
use Rattle.std.specs.Prelude.{ℕ, suc, ◌+◌, ◌≡◌, ◌<◌, ◌⊎◌, ◌↔◌, ◌&&◌, List, [], ◌++◌, map, get_or, length, Contains}
use Rattle.model_sta.specs.Automaton.{Rule, rules_of}
use Rattle.model_sta.specs.Operations.{Auto}
use Rattle.model_sta.specs.Told.{moved}

module _ {L : Type 0} where
  -- the first states are those of the first automaton and then those of the second
  pub record HasBoth (first second rules : List (List (Rule L))) : Type 0 where
    pub firsts : (s : ℕ) → s < length first → rules_of rules s ≡ rules_of first s
    pub seconds : (s : ℕ) → s < length second → rules_of rules (length first + s) ≡ map (moved (length first)) (rules_of second s)

  -- a rule that applies where r and s do
  pub record IsBoth (r s p : Rule L) : Type 0 where
    pub constructor_is : p.constructor ≡ r.constructor
    pub guard_is : (l : L) → p.guard l ≡ (r.guard l && s.guard l)
    pub demands_are : (j x : ℕ) → Contains (get_or p.demands j []) x ↔ (Contains (get_or r.demands j []) x ⊎ Contains (get_or s.demands j []) x)

  -- exactly one or more for each two rules of one constructor
  pub record ArePairs (rs ss ps : List (Rule L)) : Type 0 where
    pub sound : (p : Rule L) → Contains ps p → (r s : Rule L) × Contains rs r × Contains ss s × (r.constructor ≡ s.constructor) × IsBoth r s p
    pub complete : (r s : Rule L) → Contains rs r → Contains ss s → r.constructor ≡ s.constructor → (p : Rule L) × Contains ps p × IsBoth r s p

  -- both automata side by side and one more state, which is the start
  pub record HasStart (a b c : Auto L) : Type 0 where
    pub beside : HasBoth a.rules b.rules c.rules
    pub many : length c.rules ≡ suc (length a.rules + length b.rules)
    pub start_is : c.start ≡ length a.rules + length b.rules

  -- which accepts what either start accepts
  pub record IsEither (a b c : Auto L) : Type 0 where
    pub has_start : HasStart a b c
    pub rules_are : rules_of c.rules c.start ≡ rules_of a.rules a.start ++ map (moved (length a.rules)) (rules_of b.rules b.start)

  -- or what both accept
  pub record IsPaired (a b c : Auto L) : Type 0 where
    pub has_start : HasStart a b c
    pub rules_are : ArePairs (rules_of a.rules a.start) (map (moved (length a.rules)) (rules_of b.rules b.start)) (rules_of c.rules c.start)
