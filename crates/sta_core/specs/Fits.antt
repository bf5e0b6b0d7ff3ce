-- Which rules an automaton may have.
use Rattle.std.specs.Prelude.{ℕ, ◌≡◌, ◌<◌, List, length, get_or, All, Vec}
use Rattle.sta_core.specs.declared.StaRule.{StaRule}

module _ {A : Type 0} where
  -- the constructor is one of the ranks, it has as many children as there are demands, and each demand is of the states
  abbrev pub RuleFits : List ℕ → ℕ → StaRule A → Type 0
  RuleFits ranks states r = (r.constructor < length ranks) × (length r.demands.items ≡ get_or ranks r.constructor 0) × All (λ d. All (λ s. s < states) d.items) r.demands.items

  -- each rule of each state fits
  abbrev pub RulesFit : {G : Type 0} → List ℕ → List (Vec (StaRule A) G) → Type 0
  RulesFit ranks rules = All (λ those. All (RuleFits ranks (length rules)) those.items) rules
