-- Equality of two languages by one automaton over both.
use Rattle.std.proofs.Common.{ℕ, ◌+◌, ◌≡◌, ◌<◌, List, Contains, sym, ◌∙◌, length}
use Rattle.model_tree.specs.Tree.{Tree}
use Rattle.model_sta.specs.Automaton.{Rule, is_accepted}
use Rattle.model_sta.specs.Sets.{Row, has, set_of, Fits}
use Rattle.model_sta.specs.Reached.{IsComplete}
use Rattle.model_sta.proofs.Sets.{set_is_accepted}
use Rattle.model_sta.specs.Operations.{Auto}
use Rattle.model_sta.specs.Told.{AreOwn}
use Rattle.sta_theory.specs.Beside.{HasBoth}
use Rattle.sta_theory.proofs.Beside.{first_accepts, second_accepts}

module _ {L : Type 0} (ranks : List ℕ) (D : L → Type 0) (known : List Row) (a b : Auto L) (rules : List (List (Rule L))) (own_a : AreOwn a.rules) (own_b : AreOwn b.rules) (beside : HasBoth a.rules b.rules rules)
    (a_low : a.start < length a.rules) (b_low : b.start < length b.rules) where
  first_start : (t : Tree L) → has (set_of rules t) a.start ≡ is_accepted a.rules t a.start
  first_start t = set_is_accepted rules t a.start ∙ first_accepts a.rules b.rules rules own_a own_b beside t a.start a_low

  second_start : (t : Tree L) → has (set_of rules t) (length a.rules + b.start) ≡ is_accepted b.rules t b.start
  second_start t = set_is_accepted rules t (length a.rules + b.start) ∙ second_accepts a.rules b.rules rules own_a own_b beside t b.start b_low

  -- where no set has exactly one of the starts the languages are one
  pub starts_same : IsComplete ranks D rules known → ((q : Row) → Contains known q → has q a.start ≡ has q (length a.rules + b.start)) → (t : Tree L) → Fits ranks D t → is_accepted a.rules t a.start ≡ is_accepted b.rules t b.start
  starts_same complete same t f = sym (first_start t) ∙ same (set_of rules t) (complete t f) ∙ second_start t

  -- a tree whose set has exactly one of them is in exactly one of the languages
  pub starts_differ : (t : Tree L) → ¬ (has (set_of rules t) a.start ≡ has (set_of rules t) (length a.rules + b.start)) → ¬ (is_accepted a.rules t a.start ≡ is_accepted b.rules t b.start)
  starts_differ t other e = other (first_start t ∙ e ∙ sym (second_start t))
