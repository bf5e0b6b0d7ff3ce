-- Programs without definitions.
use Rattle.std.proofs.Common.{◌≡◌, ℕ, Bool, true, false, cond, List, [], ◌∷◌, Some, None, find, refl, sym, ◌∙◌}
use Rattle.std.specs.Option.{option_and_then}
use Rattle.model_grammar.specs.Syntax.{X, Item}
use Rattle.model_names.specs.Declared.{declares}
use Rattle.model_meaning.specs.Reached.{own_value, definition_of, Opens}
use Rattle.model_meaning.specs.Laws.{DemandNoDefinition}

abbrev pub DefineNothing : List Item → Type 0
DefineNothing [] = Unit {0}
DefineNothing (item ∷ items) = (own_value item.body ≡ None) × DefineNothing items

module _ (n : List ℕ) where
  among : (items : List Item) → DefineNothing items → option_and_then (λ item. own_value item.body) (find (declares n) items) ≡ None
  among [] nothing = refl
  among (item ∷ items) nothing = by (declares n item) (among items nothing.1)
    where
      by : (b : Bool) → option_and_then (λ item. own_value item.body) (find (declares n) items) ≡ None → option_and_then (λ item. own_value item.body) (cond b (Some item) (find (declares n) items)) ≡ None
      by true later = nothing.0
      by false later = later

module _ (items : List Item) (nothing : DefineNothing items) where
  pub undefined : (n : List ℕ) → definition_of items n ≡ None
  undefined n = among n items nothing

  pub opens_nothing : (n : List ℕ) (x : X) → Opens items n x → ⊥
  opens_nothing n x opens = let bad : None ≡ Some x = sym (undefined opens.definition) ∙ opens.is in cc

  pub demand_nothing : DemandNoDefinition items
  demand_nothing = record { in_languages = λ n r d at demanded. undefined d.language.text }
