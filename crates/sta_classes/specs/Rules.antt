-- Rules as plain data, and over labels.
use Rattle.std.specs.Prelude.{Bool, List, map, Vec}
use Rattle.model_tree.specs.Label.{Label}
use Rattle.model_sta.specs.Automaton.{Rule}
use Rattle.sta_core.specs.Machine.{PlainRule, plain_rule}
use Rattle.sta_core.specs.Sta.{rule_meaning}
use Rattle.sta_core.specs.declared.StaRule.{StaRule}

module _ {A : Type 0} where
  -- each state's rules, as plain data
  abbrev pub plain_rules : {G : Type 0} → List (Vec (StaRule A) G) → List (List (PlainRule A))
  plain_rules rules = map (λ those. map plain_rule those.items) rules

  -- the rules over labels that they are
  abbrev pub meaning_of : (A → Label → Bool) → List (List (PlainRule A)) → List (List (Rule Label))
  meaning_of holds rules = map (map (rule_meaning holds)) rules
