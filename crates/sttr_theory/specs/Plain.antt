-- Triples and ways as code holds them, with written guards and maps, and what they are once these have a meaning.
use Rattle.std.specs.Prelude.{ℕ, Bool, List, Option, refl}
use Rattle.std.specs.Option.{option_map}
use Rattle.std.specs.Coded.{Coded, code_by, coded_ℕ, coded_list, coded_option, coded×}
use Rattle.model_sttr.specs.Terms.{Term, with_maps}
use Rattle.model_sttr.specs.Transducer.{Head}
use Rattle.model_sttr.specs.TermCode.{coded_head, coded_term}
use Rattle.sttr_theory.specs.Triples.{Triple, Way}
use Rattle.sttr_theory.specs.Ways.{WayOf}

pub record PlainWay (G M : Type 0) : Type 0 where
  pub guard : G
  pub demands : List (List Triple)
  pub term : Option (Term Triple M)

-- a part of a way, with a term of any kind
pub record PlainPart (G X : Type 0) : Type 0 where
  pub guard : G
  pub demands : List (List Triple)
  pub term : X

module _ {G L : Type 0} (holds : G → L → Bool) where
  abbrev pub way_of : {M : Type 0} → (M → L → L) → PlainWay G M → Way L
  way_of make y = record { guard = holds y.guard; demands = y.demands; term = option_map (with_maps make) y.term }

  abbrev pub part_of : {X Y : Type 0} → (X → Y) → PlainPart G X → WayOf L Y
  part_of term y = record { guard = holds y.guard; demands = y.demands; term = term y.term }

-- codes, by which they are values of models
abbrev pub coded_triple : Coded Triple
coded_triple = code_by (Head × (List ℕ × Option Head)) (coded× coded_head (coded× (coded_list coded_ℕ) (coded_option coded_head))) (λ x. (x.first, (x.all, x.second))) (λ p. record { first = p.0; all = p.1.0; second = p.1.1 }) (λ _. refl)

abbrev pub coded_way : {G M : Type 0} → Coded G → Coded M → Coded (PlainWay G M)
coded_way {G} {M} g m =
    code_by (G × (List (List Triple) × Option (Term Triple M))) (coded× g (coded× (coded_list (coded_list coded_triple)) (coded_option (coded_term coded_triple m)))) (λ y. (y.guard, (y.demands, y.term))) (λ p. record { guard = p.0; demands = p.1.0; term = p.1.1 }) (λ _. refl)

abbrev pub coded_part : {G X : Type 0} → Coded G → Coded X → Coded (PlainPart G X)
coded_part {G} {X} g x =
    code_by (G × (List (List Triple) × X)) (coded× g (coded× (coded_list (coded_list coded_triple)) x)) (λ y. (y.guard, (y.demands, y.term))) (λ p. record { guard = p.0; demands = p.1.0; term = p.1.1 }) (λ _. refl)
