-- The states of two automata in one list, and one more state behind them.
use Rattle.std.proofs.Common.{suc, ◌+◌, ◌≡◌, List, [], ◌∷◌, ◌++◌, map, length, ap, ◌∙◌, arith}
use Rattle.std.proofs.lemmas.List.{get_or_append_left, get_or_at, get_or-append-add, length-append, length_push, length-map}
use Rattle.std.proofs.Math.ListN.{get_or-map}
use Rattle.model_sta.specs.Automaton.{Rule, rules_of}
use Rattle.model_sta.specs.Operations.{Auto}
use Rattle.model_sta.specs.Told.{moved, IsBeside}
use Rattle.sta_theory.specs.Beside.{HasBoth, HasStart}

module _ {L : Type 0} (first second : List (List (Rule L))) where
  abbrev pub placed : List (List (Rule L))
  placed = first ++ map (map (moved (length first))) second

  placed_long : length placed ≡ length first + length second
  placed_long = length-append first (map (map (moved (length first))) second) ∙ ap (λ n. length first + n) (length-map second (map (moved (length first))))

  pub placed_beside : IsBeside first second placed
  placed_beside = record {
    firsts = λ s low. get_or_append_left first (map (map (moved (length first))) second) [] s low;
    seconds = λ s low. get_or-append-add first (map (map (moved (length first))) second) s [] ∙ get_or-map (map (moved (length first))) second s [];
    many = placed_long;
  }

  module _ (start : List (Rule L)) where
    pub begins : HasBoth first second (placed ++ start ∷ [])
    begins = record {
      firsts = λ s low. get_or_append_left placed (start ∷ []) [] s (omega (arith, low, placed_long)) ∙ placed_beside.firsts s low;
      seconds = λ s low. get_or_append_left placed (start ∷ []) [] (length first + s) (omega (arith, low, placed_long)) ∙ placed_beside.seconds s low;
    }

    pub start_at : rules_of (placed ++ start ∷ []) (length first + length second) ≡ start
    start_at = get_or_at placed start [] [] (length first + length second) placed_long

    pub one_more : length (placed ++ start ∷ []) ≡ suc (length first + length second)
    one_more = omega (arith, length_push placed start, placed_long)

-- the automaton with one more state as its start
pub has_start : {L : Type 0} (a b c : Auto L) (start : List (Rule L)) → c.rules ≡ placed a.rules b.rules ++ start ∷ [] → c.start ≡ length a.rules + length b.rules → HasStart a b c
has_start a b c start are at = record {
  beside = rw are (begins a.rules b.rules start);
  many = ap length are ∙ one_more a.rules b.rules start;
  start_is = at;
}

pub start_is : {L : Type 0} (a b c : Auto L) (start : List (Rule L)) → c.rules ≡ placed a.rules b.rules ++ start ∷ [] → c.start ≡ length a.rules + length b.rules → rules_of c.rules c.start ≡ start
start_is a b c start are at = ap (λ rs. rules_of rs c.start) are ∙ ap (rules_of (placed a.rules b.rules ++ start ∷ [])) at ∙ start_at a.rules b.rules start
