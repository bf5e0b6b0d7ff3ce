-- The rules of opposites behind those of the states.
use Rattle.std.specs.Prelude.{ℕ, ◌≡◌, ◌<◌, List, [], ◌++◌, get_or, length}
use Rattle.model_sta.specs.Sets.{Row}
use Rattle.sta_core.specs.Machine.{PlainRule}
use Rattle.sta_core.specs.declared.Lang.{Lang}
use Rattle.sta_ops.specs.Numbers.{AreNumbered}
use Rattle.sta_ops.specs.Opposites.{AreNotRules}
use Rattle.sta_ops.specs.Rules.{rules_at}

-- for each of these states those of its opposite
pub record AddsOpposites {A : Type 0} (opposites fresh ranks : List ℕ) (rows : List Row) (rules old new : List (List (PlainRule A))) : Type 0 where
  pub added : List (List (PlainRule A))
  pub behind : new ≡ old ++ added
  pub many : length added ≡ length fresh
  pub each : (f : ℕ) → f < length fresh → AreNotRules opposites ranks rows (rules_at rules (get_or fresh f 0)) (get_or added f [])

-- c has the states with these rules and the opposites of all of them, and its state is the opposite of this one
pub record IsDoubledBy {A : Type 0} (rows : List Row) (ranks : List ℕ) (rules : List (List (PlainRule A))) (state : ℕ) (c : Lang A) : Type 0 where
  pub numbers : List ℕ
  pub fresh : List ℕ
  pub numbered : AreNumbered rows (length rules) (length rules) numbers fresh
  pub adds : AddsOpposites numbers fresh ranks rows rules rules c.sta.rules
  pub ranks_are : c.sta.ranks ≡ ranks
  pub state_is : c.state ≡ get_or numbers state 0
