-- An automaton as contracts see it: plain data.
use Rattle.std.specs.Prelude.{ℕ, List, map}
use Rattle.std.specs.Coded.{Coded, code_by, coded×, coded_ℕ, coded_list}
use Rattle.std.proofs.Common.{refl}
use Rattle.model_tree.specs.Formula.{Formula}
use Rattle.model_tree.specs.FormulaCode.{coded_formula}
use Rattle.label_core.specs.Formula.{plain_formula}
use Rattle.sta_core.specs.declared.StaRule.{StaRule}

-- a rule of a state
pub record PlainRule (A : Type 0) : Type 0 where
  pub constructor : ℕ
  pub guard : Formula A
  pub demands : List (List ℕ)

-- the ranks of the constructors, and each state's rules
pub record Machine (A : Type 0) : Type 0 where
  pub ranks : List ℕ
  pub rules : List (List (PlainRule A))

module _ {A : Type 0} where
  abbrev pub plain_rule : StaRule A → PlainRule A
  plain_rule r = record { constructor = r.constructor; guard = plain_formula r.guard; demands = map (λ d. d.items) r.demands.items }

  abbrev pub coded_rule : Coded A → Coded (PlainRule A)
  coded_rule a = code_by (ℕ × (Formula A × List (List ℕ))) (coded× coded_ℕ (coded× (coded_formula a) (coded_list (coded_list coded_ℕ)))) (λ r. (r.constructor, (r.guard, r.demands))) (λ p. record { constructor = p.0; guard = p.1.0; demands = p.1.1 }) (λ _. refl)

  abbrev pub coded_machine : Coded A → Coded (Machine A)
  coded_machine a = code_by (List ℕ × List (List (PlainRule A))) (coded× (coded_list coded_ℕ) (coded_list (coded_list (coded_rule a)))) (λ m. (m.ranks, m.rules)) (λ p. record { ranks = p.0; rules = p.1 }) (λ _. refl)
