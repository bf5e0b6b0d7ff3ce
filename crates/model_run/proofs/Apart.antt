-- Trees that are told apart by the languages that a name reaches are told apart by the name.
use Rattle.std.proofs.Common.{◌≡◌, ℕ, inl, inr, Bool, true, false, List, [], ◌∷◌, Some, refl, arith}
use Rattle.model_tree.specs.Tree.{LabelTree}
use Rattle.model_program.specs.Syntax.{Name}
use Rattle.model_grammar.specs.Syntax.{named, Item}
use Rattle.model_grammar.specs.Places.{nowhere}
use Rattle.model_names.specs.Kinds.{language, kind_of, type_of}
use Rattle.model_meaning.specs.Meaning.{IsInLanguage}
use Rattle.model_meaning.specs.Truth.{ExactlyOne}
use Rattle.model_meaning.specs.Reached.{Reaches}
use Rattle.model_run.specs.Parts.{meant, reached_language, AreApart}

abbrev pub name_of : List ℕ → Name
name_of text = record { text = text; place = nowhere }

-- a language on the type that the name reaches has exactly one of the two trees
pub record IsToldByReached (items : List Item) (n : Name) (type : List ℕ) (s t : LabelTree) : Type 0 where
  pub other : List ℕ
  pub reached : Reaches items n.text other
  pub kind : kind_of items (named (name_of other)) ≡ Some language
  pub on : type_of items (named (name_of other)) ≡ Some type
  pub apart : ExactlyOne (IsInLanguage items (named (name_of other)) s) (IsInLanguage items (named (name_of other)) t)

pub apart_by_reached : (items : List Item) (n : Name) (type : List ℕ) (s t : LabelTree) → IsToldByReached items n type s t → AreApart items (named n ∷ []) type s t
apart_by_reached items n type s t told = (
  named n,
  (0, omega arith, refl),
  meant (named (name_of told.other)),
  reached_language n (name_of told.other) type told.reached (told.kind, told.on),
  told.apart,
)
