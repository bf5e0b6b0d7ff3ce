-- The least automaton of a language: how many trees contexts tell apart.
use Rattle.std.specs.Prelude.{ℕ, List}
use Rattle.model_tree.specs.Tree.{LabelTree}
use Rattle.model_tree.specs.Signature.{HasType}
use Rattle.model_sta.specs.Contexts as contexts
use Rattle.model_grammar.specs.Syntax.{X, Item}
use Rattle.model_meaning.specs.Meaning.{IsInLanguage, input_type}
use Rattle.model_meaning.specs.Truth.{ExactlyOne}

-- exactly one of the two trees is in the language
abbrev pub Differ : List Item → X → LabelTree → LabelTree → Type 0
Differ items x s t = ExactlyOne (IsInLanguage items x s) (IsInLanguage items x t)

-- the greatest number of trees of the type that contexts tell apart pairwise for the language
abbrev pub IsCount : List Item → X → ℕ → Type 0
IsCount items x n = contexts.IsCount (HasType (input_type items x)) (Differ items x) n
