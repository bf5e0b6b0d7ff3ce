-- What a row has once rules were tried.
use Rattle.std.specs.Prelude.{ℕ, Bool, List, [], ◌∷◌}
use Rattle.model_tree.specs.Label.{Label}
use Rattle.model_sta.specs.Sets.{Row}
use Rattle.sta_core.specs.Machine.{PlainRule}
use Rattle.sta_core.specs.Sta.{rule_meaning}
use Rattle.sta_marks.specs.Rows.{with_state}
use Rattle.sta_marks.specs.Rules.{applies}

module _ {A : Type 0} (holds : A → Label → Bool) (l : Label) (qs : List Row) where
  -- the row with the state of the rule, if the rule applies
  abbrev pub tried : Row → ℕ × PlainRule A → Row
  tried row p = with_state p.0 (applies l qs (rule_meaning holds p.1)) row

  abbrev pub tried_each : Row → List (ℕ × PlainRule A) → Row
  tried_each row [] = row
  tried_each row (p ∷ ps) = tried_each (tried row p) ps
