-- The rules of a state that runs a state of the second over the tree itself: they are those of the second's state.
use Rattle.std.specs.Prelude.{◌<◌, ◌≤◌, ◌==◌, cond, ℕ, List, [], ◌∷◌, map, get_or, length, Some, None}
use Rattle.std.specs.List.{flat_map}
use Rattle.model_sta.specs.Automaton.{Rule}
use Rattle.model_sttr.specs.Terms.{Term, on, build, Parts, no_parts, part, StandsFor}
use Rattle.model_sttr.specs.Transducer.{Head, identity, OutRule, Sttr}
use Rattle.sttr_theory.specs.Covers.{Covers, Never}
use Rattle.sttr_theory.specs.Triples.{Triple, Way, LookName, seconds}
use Rattle.sttr_theory.specs.Built.{IsMadeRule, IsNamed}

-- the second's head over a child as it is
abbrev pub on_same : Head → Triple
on_same h = record { first = identity; all = []; second = Some h }

-- the rule has a constructor of these ranks, and demands of no more children than it has
pub record IsOfRanks {L : Type 0} (ranks : List ℕ) (r : Rule L) : Type 0 where
  pub constructor : r.constructor < length ranks
  pub demands : length r.demands ≤ get_or ranks r.constructor 0

module _ {L : Type 0} where
  abbrev mutual
    -- the second's term over the children as they are
    pub as_calls : Term Head (L → L) → Term Triple (L → L)
    as_calls (on h j) = on (on_same h) j
    as_calls (build c m ps) = build c m (parts_as_calls ps)

    pub parts_as_calls : Parts Head (L → L) → Parts Triple (L → L)
    parts_as_calls no_parts = no_parts
    parts_as_calls (part p ps) = part (as_calls p) (parts_as_calls ps)

  -- the way of a rule of the second over a node whose children are kept
  abbrev pub own_way : OutRule L → Way L
  own_way σ = record {
    guard = σ.rule.guard;
    demands = map (λ Z. record { first = identity; all = Z; second = None } ∷ []) σ.rule.demands;
    term = Some (as_calls σ.term);
  }

  -- those of the rules with constructor c
  abbrev pub own_ways : ℕ → List (OutRule L) → List (Way L)
  own_ways c σs = flat_map (λ σ. cond (σ.rule.constructor == c) (own_way σ ∷ []) []) σs

module _ {L : Type 0} (ranks : List ℕ) (D : L → Type 0) (f g : Sttr L) where
  -- the second's rule, whose demands and heads have other numbers
  abbrev pub IsCopiedRule : List LookName → List Triple → OutRule L → OutRule L → Type 0
  IsCopiedRule looks names r σ =
      IsMadeRule ranks D f g looks r.rule σ.rule.constructor σ.rule.guard (λ j. seconds (get_or σ.rule.demands j []))
      × StandsFor (λ k h. IsNamed ranks D f g names k (on_same h)) D r.term σ.term

  abbrev pub AreCopiedRules : List LookName → List Triple → List (OutRule L) → List (OutRule L) → Type 0
  AreCopiedRules looks names = Covers (IsCopiedRule looks names) (λ σ. Never D σ.rule.guard)
