-- An automaton with some states of another one, under numbers of its own.
use Rattle.std.specs.Prelude.{ℕ, ◌≡◌, ◌<◌, List, map, length}
use Rattle.model_sta.specs.Automaton.{Rule, rules_of}
use Rattle.model_sta.specs.Told.{AreOwn}

module _ {L : Type 0} (old : ℕ → ℕ) where
  -- the rule where each demanded state s has the number old s
  abbrev pub renamed : Rule L → Rule L
  renamed r = record { constructor = r.constructor; guard = r.guard; demands = map (map old) r.demands }

  -- state q of the part is state old q of the whole, with the same rules but for the numbers of states
  pub record IsPart (whole part : List (List (Rule L))) : Type 0 where
    pub low : (q : ℕ) → q < length part → old q < length whole
    pub once : (q r : ℕ) → q < length part → r < length part → old q ≡ old r → q ≡ r
    pub own : AreOwn part
    pub rules_are : (q : ℕ) → q < length part → rules_of whole (old q) ≡ map renamed (rules_of part q)
