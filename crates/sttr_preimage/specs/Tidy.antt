-- Ways whose triples demand states in ascending order, each once.
use Rattle.std.specs.Prelude.{map}
use Rattle.std.specs.Option.{option_map}
use Rattle.model_sttr.specs.Terms.{Term, on, build, Parts, no_parts, part}
use Rattle.sttr_theory.specs.Triples.{Triple, Way}
use Rattle.sttr_preimage.specs.Names.{tidy}

module _ {M : Type 0} where
  abbrev mutual
    pub tidy_term : Term Triple M → Term Triple M
    tidy_term (on x j) = on (tidy x) j
    tidy_term (build c m ps) = build c m (tidy_parts ps)

    pub tidy_parts : Parts Triple M → Parts Triple M
    tidy_parts no_parts = no_parts
    tidy_parts (part p ps) = part (tidy_term p) (tidy_parts ps)

abbrev pub tidy_way : {L : Type 0} → Way L → Way L
tidy_way y = record { guard = y.guard; demands = map (map tidy) y.demands; term = option_map tidy_term y.term }
