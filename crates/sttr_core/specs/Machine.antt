-- A transducer as contracts see it: plain data, and the transducer over labels that it is once its atoms and maps have a
-- meaning.
use Rattle.std.specs.Prelude.{Bool, List, refl}
use Rattle.std.specs.Coded.{Coded, code_by, coded×, coded_list}
use Rattle.model_tree.specs.Label.{Label}
use Rattle.model_sttr.specs.Transducer as meant
use Rattle.model_sttr.specs.Plain.{PlainOut, coded_out, sttr_of}
use Rattle.sta_core.specs.Machine.{Machine, PlainRule, plain_rule, coded_rule}
use Rattle.sta_core.specs.Machine as sta
use Rattle.sta_core.specs.Sta.{rule_meaning}
use Rattle.sttr_core.specs.Terms.{plain_term}
use Rattle.sttr_core.specs.declared.sttr.SttrRule.{SttrRule}

-- the lookahead, and each state's rules
pub record OutMachine (A M : Type 0) : Type 0 where
  pub looks : Machine A
  pub rules : List (List (PlainOut (PlainRule A) M))

module _ {A M : Type 0} where
  abbrev pub plain_out : SttrRule A M → PlainOut (PlainRule A) M
  plain_out r = record { rule = plain_rule r.rule; term = plain_term r.term }

  abbrev pub coded_machine : Coded A → Coded M → Coded (OutMachine A M)
  coded_machine a m = code_by (Machine A × List (List (PlainOut (PlainRule A) M))) (coded× (sta.coded_machine a) (coded_list (coded_list (coded_out (coded_rule a) m)))) (λ d. (d.looks, d.rules)) (λ p. record { looks = p.0; rules = p.1 }) (λ _. refl)

module _ {A M : Type 0} (holds : A → Label → Bool) (make : M → Label → Label) where
  abbrev pub transducer_of : OutMachine A M → meant.Sttr Label
  transducer_of d = sttr_of (rule_meaning holds) make (record { looks = d.looks.rules; rules = d.rules })
