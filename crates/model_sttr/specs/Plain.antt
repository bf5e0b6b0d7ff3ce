-- Transducers as code holds them, with written rules and maps, and what they are once these have a meaning.
use Rattle.std.specs.Prelude.{List, map, refl}
use Rattle.std.specs.Coded.{Coded, code_by, coded×, coded_list}
use Rattle.model_sta.specs.Automaton.{Rule}
use Rattle.model_sttr.specs.Terms.{Term, with_maps}
use Rattle.model_sttr.specs.TermCode.{coded_term, coded_head}
use Rattle.model_sttr.specs.Transducer.{Head, OutRule, Sttr}

-- a written rule with a term
pub record PlainOut (R M : Type 0) : Type 0 where
  pub rule : R
  pub term : Term Head M

pub record PlainSttr (R M : Type 0) : Type 0 where
  pub looks : List (List R)
  pub rules : List (List (PlainOut R M))

module _ {R M L : Type 0} (meaning : R → Rule L) (make : M → L → L) where
  abbrev pub out_meaning : PlainOut R M → OutRule L
  out_meaning r = record { rule = meaning r.rule; term = with_maps make r.term }

  abbrev pub sttr_of : PlainSttr R M → Sttr L
  sttr_of f = record { looks = map (map meaning) f.looks; rules = map (map out_meaning) f.rules }

abbrev pub coded_out : {R M : Type 0} → Coded R → Coded M → Coded (PlainOut R M)
coded_out {R} {M} r m = code_by (R × Term Head M) (coded× r (coded_term coded_head m)) (λ x. (x.rule, x.term)) (λ p. record { rule = p.0; term = p.1 }) (λ _. refl)

abbrev pub coded_sttr : {R M : Type 0} → Coded R → Coded M → Coded (PlainSttr R M)
coded_sttr {R} {M} r m =
    code_by (List (List R) × List (List (PlainOut R M))) (coded× (coded_list (coded_list r)) (coded_list (coded_list (coded_out r m)))) (λ x. (x.looks, x.rules)) (λ p. record { looks = p.0; rules = p.1 }) (λ _. refl)
