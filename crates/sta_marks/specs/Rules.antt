-- The rules of an automaton by their constructors.
use Rattle.std.specs.Prelude.{ℕ, suc, ◌≡◌, ◌==◌, ◌&&◌, Bool, cond, List, [], ◌∷◌, ◌++◌, map, get_or, Vec}
use Rattle.model_sta.specs.Automaton.{Rule}
use Rattle.model_sta.specs.Sets.{Row, rows_meet}
use Rattle.sta_core.specs.Machine.{Machine, PlainRule, plain_rule}
use Rattle.sta_core.specs.declared.StaRule.{StaRule}
use Rattle.sta_marks.specs.declared.rules.Owned.{Owned}

module _ {A : Type 0} where
  abbrev pub plain_rules : {G : Type 0} → List (Vec (StaRule A) G) → List (List (PlainRule A))
  plain_rules rules = map (λ those. map plain_rule those.items) rules

  -- a rule with its state, if it has the constructor
  abbrev pub owned_one : ℕ → ℕ → PlainRule A → List (ℕ × PlainRule A)
  owned_one c s r = cond (r.constructor == c) ((s, r) ∷ []) []

  -- those of a state's rules
  abbrev pub owned_of : ℕ → ℕ → List (PlainRule A) → List (ℕ × PlainRule A)
  owned_of c s [] = []
  owned_of c s (r ∷ rs) = owned_one c s r ++ owned_of c s rs

  -- those of the states from s on
  abbrev pub owned_from : ℕ → ℕ → List (List (PlainRule A)) → List (ℕ × PlainRule A)
  owned_from c s [] = []
  owned_from c s (rs ∷ rules) = owned_of c s rs ++ owned_from c (suc s) rules

  abbrev pub plain_owned : Owned A → ℕ × PlainRule A
  plain_owned x = (x.state, plain_rule x.rule.now)

  -- each constructor's list has the rules of all states with it
  abbrev pub AreGrouped : {G : Type 0} → Machine A → List (Vec (Owned A) G) → Type 0
  AreGrouped m lists = (c : ℕ) → map plain_owned (get_or (map (λ v. v.items) lists) c []) ≡ owned_from c 0 m.rules

-- whether the guard holds and the children's rows have what is demanded of them
abbrev pub applies : {L : Type 0} → L → List Row → Rule L → Bool
applies l qs r = r.guard l && rows_meet qs r.demands
