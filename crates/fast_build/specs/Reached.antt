-- The languages that a language reaches.
use Rattle.std.specs.Prelude.{◌≡◌, ℕ, List, ◌∷◌, ◌++◌, map, Contains, All, Some}
use Rattle.std.specs.List.{flat_map, IsDistinct}
use Rattle.fast_syntax.specs.Plain.{plain_lang}
use Rattle.model_program.specs.Syntax.{Demand}
use Rattle.model_grammar.specs.Syntax.{Rule, Item}
use Rattle.model_names.specs.Declared.{same_text, rules_of}
use Rattle.model_meaning.specs.Reached.{Reaches}
use Rattle.fast_build.specs.declared.reached.Reached.{Reached}
use Rattle.fast_build.specs.Items.{find_lang}

-- the names of the languages that are demanded
abbrev pub demanded_by : List Demand → List (List ℕ)
demanded_by given = map (λ d. d.language.text) given

abbrev pub demanded_in : List Rule → List (List ℕ)
demanded_in rules = flat_map (λ r. demanded_by r.given) rules

-- The old names stand first, and behind them some of these more names, all of which are among them.
pub record IsGrown (old new more : List (List ℕ)) : Type 0 where
  pub added : List (List ℕ)
  pub is : new ≡ old ++ added
  pub of_more : All (Contains more) added
  pub all : All (Contains new) more

-- the names are those that the language reaches, itself first
pub record AreReached (items : List Item) (name : List ℕ) (names : List (List ℕ)) : Type 0 where
  pub others : List (List ℕ)
  pub first : names ≡ name ∷ others
  pub reached : All (Reaches items name) names

-- each language that one of these demands is among the names
abbrev pub AreClosed : List Item → List (List ℕ) → List (List ℕ) → Type 0
AreClosed items names these = All (λ n. All (Contains names) (demanded_in (rules_of items n))) these

-- the names of all languages that are reached, and their declarations
pub record IsReached (items : List Item) (name : List ℕ) (r : Reached) : Type 0 where
  pub reached : AreReached items name r.names.keys
  pub closed : AreClosed items r.names.keys r.names.keys
  pub once : IsDistinct same_text r.names.keys
  pub langs : map (find_lang items) r.names.keys ≡ map (λ l. Some (plain_lang l.now)) r.langs.items
