-- When a statement is true, and which trees show that it is false.
use Rattle.std.specs.Prelude.{◌⊎◌, ◌↔◌, List, Option, Some, None}
use Rattle.model_tree.specs.Tree.{LabelTree}
use Rattle.model_tree.specs.Signature.{HasType}
use Rattle.model_grammar.specs.Syntax.{X, Claim, equal, member, empty, type_check, Item}
use Rattle.model_names.specs.Kinds.{Kind, language, transformation, a_tree, kind_of}
use Rattle.model_meaning.specs.Meaning.{IsInLanguage, IsRelated, input_type}

-- one of the two holds, and the other doesn't
abbrev pub ExactlyOne : Type 0 → Type 0 → Type 0
ExactlyOne A B = (A × ¬ B) ⊎ (B × ¬ A)

module _ (items : List Item) where
  -- the tree is in what the expression is: in the language, or among the inputs of the transformation that have an output
  abbrev pub IsAmong : Option Kind → X → LabelTree → Type 0
  IsAmong (Some language) x t = IsInLanguage items x t
  IsAmong (Some transformation) x t = (u : LabelTree) × IsRelated items x t u
  IsAmong (Some a_tree) x t = ⊥
  IsAmong None x t = ⊥

  -- Of all trees of the type that the statement speaks of: the same ones are in both languages; none is in the language, or
  -- has an output; each output of one of the first language is in the second. A statement with
  -- `in` is told by the tree that is printed for it, and not here.
  abbrev pub IsTrue : Claim → Type 0
  IsTrue (equal x y) = (t : LabelTree) → HasType (input_type items x) t → IsInLanguage items x t ↔ IsInLanguage items y t
  IsTrue (empty x) = (t : LabelTree) → HasType (input_type items x) t → ¬ (IsAmong (kind_of items x) x t)
  IsTrue (type_check x f y) = (t u : LabelTree) → HasType (input_type items x) t → IsInLanguage items x t → IsRelated items f t u → IsInLanguage items y u
  IsTrue (member x y) = ⊥

  -- a tree of the type that the statement speaks of: in exactly one of the languages; in the language, or with an output;
  -- in the first language with an output that isn't in the second
  abbrev pub Shows : Claim → LabelTree → Type 0
  Shows (equal x y) t = HasType (input_type items x) t × ExactlyOne (IsInLanguage items x t) (IsInLanguage items y t)
  Shows (empty x) t = HasType (input_type items x) t × IsAmong (kind_of items x) x t
  Shows (type_check x f y) t = HasType (input_type items x) t × IsInLanguage items x t × ((u : LabelTree) × IsRelated items f t u × ¬ (IsInLanguage items y u))
  Shows (member x y) t = ⊥
