-- The automaton over labels that a machine is, once its atoms have a meaning.
use Rattle.std.specs.Prelude.{Bool, List, map, All}
use Rattle.model_tree.specs.Label.{Label}
use Rattle.model_sta.specs.Automaton.{Rule}
use Rattle.model_tree.specs.Formula.{formula_holds, EveryAtom}
use Rattle.sta_core.specs.Machine.{Machine, PlainRule}

module _ {A : Type 0} (holds : A → Label → Bool) where
  abbrev pub rule_meaning : PlainRule A → Rule Label
  rule_meaning r = record { constructor = r.constructor; guard = λ l. formula_holds (λ a. holds a l) r.guard; demands = r.demands }

  abbrev pub automaton_of : Machine A → List (List (Rule Label))
  automaton_of m = map (map rule_meaning) m.rules

-- each atom speaks of the theory's labels
abbrev pub AtomsFit : {A : Type 0} → (A → Type 0) → Machine A → Type 0
AtomsFit fits m = All (λ rules. All (λ r. EveryAtom fits r.guard) rules) m.rules
