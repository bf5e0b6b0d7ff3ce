-- The names of transformations of which an expression is made.
use Rattle.std.specs.Prelude.{◌≡◌, ℕ, true, List, [], ◌∷◌, ◌++◌, is_some, All, Contains}
use Rattle.std.specs.Option.{option_map_or}
use Rattle.model_grammar.specs.declared.Op2.TheVariants.{Intersect, Union, Difference, PreImage, Compose, Restrict, RestrictOut, Apply}
use Rattle.model_grammar.specs.Syntax.{X, named, one, two, literal, Item}
use Rattle.model_names.specs.Declared.{find_item}
use Rattle.model_meaning.specs.Reached.{definition_of}

-- those that stand in it: in both parts of a composition, and in what a restriction restricts
abbrev pub sources_in : X → List (List ℕ)
sources_in (named n) = n.text ∷ []
sources_in (one op place x) = []
sources_in (two Intersect place x y) = []
sources_in (two Union place x y) = []
sources_in (two Difference place x y) = []
sources_in (two PreImage place x y) = []
sources_in (two Compose place x y) = sources_in x ++ sources_in y
sources_in (two Restrict place x y) = sources_in x
sources_in (two RestrictOut place x y) = sources_in x
sources_in (two Apply place x y) = []
sources_in (literal name labels xs) = []

-- those in the expression of a definition
abbrev pub opened_by : List Item → List ℕ → List (List ℕ)
opened_by items name = option_map_or sources_in (definition_of items name) []

abbrev pub AreDeclared : List Item → List (List ℕ) → Type 0
AreDeclared items names = All (λ n. is_some (find_item items n) ≡ true) names

-- the name stands in the expression, or in that of a definition whose name does; and so on
pub data IsSource (items : List Item) (x : X) : List ℕ → Type 0 where
  stands : (n : List ℕ) → Contains (sources_in x) n → IsSource items x n
  opened : (n m : List ℕ) → IsSource items x n → Contains (opened_by items n) m → IsSource items x m

-- the names are all of these
pub record AreSources (items : List Item) (x : X) (names : List (List ℕ)) : Type 0 where
  pub all : All (Contains names) (sources_in x)
  pub closed : All (λ n. All (Contains names) (opened_by items n)) names
  pub only : All (IsSource items x) names
