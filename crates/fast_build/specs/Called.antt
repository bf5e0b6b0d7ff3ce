-- The transformations that a transformation reaches, and the languages that are asked of children.
use Rattle.std.specs.Prelude.{◌≡◌, ℕ, List, [], ◌∷◌, ◌++◌, map, Contains, All, Some}
use Rattle.std.specs.List.{flat_map, IsDistinct}
use Rattle.fast_syntax.specs.Plain.{plain_lang, plain_trans}
use Rattle.model_grammar.specs.Syntax.{Out, child, call, node, Outs, no_out, and_out, OutRule, TransItem, Item}
use Rattle.model_names.specs.Declared.{same_text, out_rules_of}
use Rattle.model_meaning.specs.Reached.{Reaches}
use Rattle.fast_build.specs.declared.called.Called.{Called}
use Rattle.fast_build.specs.declared.reached.Reached.{Reached}
use Rattle.fast_build.specs.Items.{find_lang}
use Rattle.fast_build.specs.Reached.{AreReached, AreClosed, demanded_by}
use Rattle.fast_build.specs.Transformations.{find_trans}

abbrev mutual
  -- the names of the transformations that are called
  pub called_by : Out → List (List ℕ)
  called_by (child y) = []
  called_by (call q y) = q.text ∷ []
  called_by (node name labels outs) = called_by_all outs

  pub called_by_all : Outs → List (List ℕ)
  called_by_all no_out = []
  called_by_all (and_out out outs) = called_by out ++ called_by_all outs

abbrev pub called_in : List OutRule → List (List ℕ)
called_in rules = flat_map (λ r. called_by r.out) rules

-- the names of the languages that the rules demand
abbrev pub looked_in : List OutRule → List (List ℕ)
looked_in rules = flat_map (λ r. demanded_by r.rule.given) rules

-- the names are those of the languages that these transformations demand
pub record AreLooked (ts : List TransItem) (names : List (List ℕ)) : Type 0 where
  pub all : All (Contains names) (flat_map (λ t. looked_in t.rules) ts)
  pub only : All (Contains (flat_map (λ t. looked_in t.rules) ts)) names

-- each transformation that one of these calls is among the names
abbrev pub AreCallsClosed : List Item → List (List ℕ) → List (List ℕ) → Type 0
AreCallsClosed items names these = All (λ n. All (Contains names) (called_in (out_rules_of items n))) these

-- the names of all transformations that are reached, and their declarations
pub record IsCalled (items : List Item) (name : List ℕ) (c : Called) : Type 0 where
  pub reached : AreReached items name c.names.keys
  pub closed : AreCallsClosed items c.names.keys c.names.keys
  pub once : IsDistinct same_text c.names.keys
  pub transformations : map (find_trans items) c.names.keys ≡ map (λ t. Some (plain_trans t.now)) c.transformations.items

-- The names of some languages and of all that they reach, and their declarations.
pub record IsGathered (items : List Item) (seeds : List (List ℕ)) (r : Reached) : Type 0 where
  pub kept : All (Contains r.names.keys) seeds
  pub reached : All (λ n. (s : List ℕ) × Contains seeds s × Reaches items s n) r.names.keys
  pub closed : AreClosed items r.names.keys r.names.keys
  pub once : IsDistinct same_text r.names.keys
  pub langs : map (find_lang items) r.names.keys ≡ map (λ l. Some (plain_lang l.now)) r.langs.items
