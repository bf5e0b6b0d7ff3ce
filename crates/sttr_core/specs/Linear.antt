-- Rules that use a child twice.
use Rattle.std.specs.Prelude.{◌≡◌, ◌<◌, ℕ, List, [], Some, All, get_or, take, slice_get}
use Rattle.model_sttr.specs.Plain.{PlainOut}
use Rattle.model_sttr.specs.Terms.{Term, IsLinear}
use Rattle.sttr_core.specs.Machine.{OutMachine}
use Rattle.sttr_core.specs.Uses.{use_count}

-- some child is used more than once
abbrev pub UsesTwice : {H M : Type 0} → Term H M → Type 0
UsesTwice term = (j : ℕ) × (1 < use_count j term)

module _ {R M : Type 0} where
  -- no rule does
  abbrev pub AreAllLinear : List (PlainOut R M) → Type 0
  AreAllLinear rules = All (λ r. IsLinear r.term) rules

  -- the rule at this place does, and none before it
  pub record IsFirstCopyingOf (rules : List (PlainOut R M)) (place : ℕ) : Type 0 where
    pub rule : PlainOut R M
    pub is : slice_get rules place ≡ Some rule
    pub twice : UsesTwice rule.term
    pub before : AreAllLinear (take place rules)

module _ {A M : Type 0} where
  abbrev pub AreLinear : OutMachine A M → Type 0
  AreLinear d = All AreAllLinear d.rules

  -- the first one by its state and then by its place
  pub record IsFirstCopying (d : OutMachine A M) (state place : ℕ) : Type 0 where
    pub here : IsFirstCopyingOf (get_or d.rules state []) place
    pub before : All AreAllLinear (take state d.rules)
