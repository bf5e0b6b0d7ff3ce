-- The rules of a state, and what fits of them.
use Rattle.std.proofs.Common.{◌≡◌, ℕ, ◌<◌, Bool, List, [], map, length, get_or, All, subst, sym, ap, ◌∙◌}
use Rattle.std.proofs.lemmas.List.{get_or-map, length-map}
use Rattle.std.proofs.lemmas.Simd.{map-map}
use Rattle.std.proofs.Math.ListN.{get_or-map as get_or-map_same}
use Rattle.model_tree.specs.Label.{Label}
use Rattle.std.specs.List.{list_any}
use Rattle.model_tree.specs.Tree.{Tree}
use Rattle.model_sta.specs.Automaton.{rules_of, rule_applies, is_accepted}
use Rattle.model_tree.specs.Formula.{EveryAtom}
use Rattle.model_tree.specs.TreeCode.{trees_of-list_of}
use Rattle.model_tree.proofs.Trees.{EveryLabel_root, EveryLabel_children, depth_of_children, depth_of_child}
use Rattle.model_sta.proofs.Automata.{accepted_by_a_rule, rule_applies_relabel}
use Rattle.sta_core.specs.Machine.{Machine, plain_rule}
use Rattle.sta_core.specs.Sta.{automaton_of, rule_meaning, AtomsFit}
use Rattle.sta_core.specs.declared.StaRule.{StaRule}

-- what holds of each image of a list
pub All_from_map : {X Y : Type 0} (P : Y → Type 0) (f : X → Y) (xs : List X) → All P (map f xs) → All (λ x. P (f x)) xs
All_from_map P f xs h k d l = subst P (get_or-map f xs k d (f d) l) (h k (f d) (rw length-map l))

module _ {A : Type 0} (holds : A → Label → Bool) where
  pub rules_of_automaton : (m : Machine A) (s : ℕ) → rules_of (automaton_of holds m) s ≡ map (rule_meaning holds) (get_or m.rules s [])
  rules_of_automaton m s = get_or-map_same (map (rule_meaning holds)) m.rules s []

  -- a state accepts by the rules that the code reads
  pub accepted_by_rules : (m : Machine A) (t : Tree Label) (s : ℕ) (rules : List (StaRule A)) → map plain_rule rules ≡ get_or m.rules s [] → list_any (rule_applies (automaton_of holds m) t) (map (λ r. rule_meaning holds (plain_rule r)) rules) ≡ is_accepted (automaton_of holds m) t s
  accepted_by_rules m t s rules e =
      ap (list_any (rule_applies (automaton_of holds m) t)) (sym (map-map (rule_meaning holds) plain_rule rules) ∙ ap (map (rule_meaning holds)) e ∙ sym (rules_of_automaton m s))
      ∙ sym (accepted_by_a_rule (automaton_of holds m) t s)

module _ {A : Type 0} (fits : A → Type 0) where
  -- the atoms of a state's rules
  pub state_atoms : (m : Machine A) (s : ℕ) (rules : List (StaRule A)) → AtomsFit fits m → s < length m.rules → map plain_rule rules ≡ get_or m.rules s [] → All (λ r. EveryAtom fits (plain_rule r).guard) rules
  state_atoms m s rules h l e = All_from_map (λ r. EveryAtom fits r.guard) plain_rule rules (subst (All (λ r. EveryAtom fits r.guard)) (sym e) (h s [] l))

pub ruleset on_machines = (get_or-map, length-map)

pub ruleset on_rules = (rule_applies_relabel, state_atoms, All_from_map, EveryLabel_root, EveryLabel_children, depth_of_children, depth_of_child, trees_of-list_of)
