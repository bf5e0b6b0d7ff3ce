-- Facts on which trees a state accepts.
use Rattle.std.proofs.Common.{◌≡◌, ℕ, ◌==◌, ◌&&◌, List, refl}
use Rattle.std.specs.List.{list_any}
use Rattle.model_tree.specs.Tree.{Tree, node, constructor_of, label_of, children_of, relabel, relabel_all}
use Rattle.model_sta.specs.Automaton.{Rule, rules_of, is_accepted, meet_demands, rule_applies}

module _ {A : Type 0} (rules : List (List (Rule A))) where
  pub accepted_by_a_rule : (t : Tree A) (s : ℕ) → is_accepted rules t s ≡ list_any (rule_applies rules t) (rules_of rules s)
  accepted_by_a_rule (node c l ts) s = refl

module _ {A B : Type 0} (f : A → B) (rules : List (List (Rule B))) where
  pub rule_applies_relabel : (t : Tree A) (r : Rule B) → rule_applies rules (relabel f t) r ≡ (r.constructor == constructor_of t) && (r.guard (f (label_of t)) && meet_demands rules (relabel_all f (children_of t)) r.demands)
  rule_applies_relabel (node c l ts) r = refl
