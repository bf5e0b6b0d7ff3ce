-- Terms and rules that use a child twice.
use Rattle.std.specs.Prelude.{◌≡◌, ◌⊎◌, ℕ, Bool, true, false, cond, List, [], ◌∷◌, ◌++◌, Option, Some, None, Contains}
use Rattle.model_grammar.specs.Syntax.{Out, child, call, node, Outs, no_out, and_out, OutRule, Item}
use Rattle.model_run.specs.Plain.{Copies, is_before}
use Rattle.fast_compose.specs.declared.copying.Placed.{Placed}

abbrev mutual
  -- the variables in the term, from the left
  pub uses_in : Out → List (List ℕ)
  uses_in (child y) = y.text ∷ []
  uses_in (call q y) = y.text ∷ []
  uses_in (node n labels outs) = uses_in_all outs

  pub uses_in_all : Outs → List (List ℕ)
  uses_in_all no_out = []
  uses_in_all (and_out out outs) = uses_in out ++ uses_in_all outs

-- some text stands at two places
abbrev pub HasRepeat : List (List ℕ) → Type 0
HasRepeat [] = ⊥
HasRepeat (x ∷ xs) = Contains xs x ⊎ HasRepeat xs

-- whether one of the texts repeats an old one or another; else all are added
abbrev pub Repeats : Bool → List (List ℕ) → List (List ℕ) → List (List ℕ) → Type 0
Repeats true old new uses = HasRepeat (old ++ uses)
Repeats false old new uses = (new ≡ old ++ uses) × (HasRepeat (old ++ uses) → HasRepeat old)

-- the one of two that stands first
abbrev pub earlier_of : Option Placed → Option Placed → Option Placed
earlier_of found None = found
earlier_of None (Some other) = Some other
earlier_of (Some found) (Some other) = cond (is_before other.place found.place) (Some other) (Some found)

-- Of the rules, each by the name of a transformation and its place there, the one that copies and whose constructor stands
-- first; none where none copies.
module _ (items : List Item) (C : List ℕ → ℕ → Type 0) where
  abbrev pub IsFirst : Option Placed → Type 0
  IsFirst None = (q : List ℕ) (i : ℕ) (r : OutRule) → C q i → ¬ (Copies items q i r)
  IsFirst (Some p) =
      (r : OutRule) × C p.copying.name p.copying.rule × Copies items p.copying.name p.copying.rule r × (p.place ≡ r.rule.ctor.place)
      × ((q : List ℕ) (i : ℕ) (s : OutRule) → C q i → Copies items q i s → is_before s.rule.ctor.place p.place ≡ false)
