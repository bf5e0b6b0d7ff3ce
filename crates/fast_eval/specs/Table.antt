-- What was built for names.
use Rattle.std.specs.Prelude.{◌≡◌, ℕ, false, List, Option, Some}
use Rattle.std.specs.Str.{bytes_eq}
use Rattle.indexmap.specs.IndexMap.{IndexMap, get}
use Rattle.model_tree.specs.Signature.{Sort, sorts_of}
use Rattle.model_program.specs.Syntax.{Name, TypeItem}
use Rattle.model_grammar.specs.Syntax.{named, Item}
use Rattle.model_names.specs.Declared.{same_text, find_type}
use Rattle.model_names.specs.Kinds.{Kind, language, transformation, a_tree, type_of}
use Rattle.model_meaning.specs.Types.{signature_of}
use Rattle.model_run.specs.Parts.{IsFrom}
use Rattle.sta_core.specs.declared.Lang.{Lang}
use Rattle.sttr_core.specs.declared.sttr.Trans.{Trans}
use Rattle.record_label.specs.declared.maps.RowMap.{RowMap}
use Rattle.record_label.specs.Rows.{RowAtom}
use Rattle.fast_eval.specs.declared.built.Built.{Built}
use Rattle.fast_eval.specs.Built.{IsBuiltOf, IsTransBuiltOf}
use Rattle.fast_eval.specs.Places.{HasName, HasNamesOf, IsThere, AreRight}

-- the name has a language, or a transformation
abbrev pub HasBuilt : Kind → Built → List ℕ → Type 0
HasBuilt language b name = HasName b.languages name
HasBuilt transformation b name = HasName b.transformations name
HasBuilt a_tree b name = Unit {0}

-- the name has a language
abbrev pub IsNamed : Built → List ℕ → Type 0
IsNamed = HasBuilt language

-- each name that had a language or a transformation has one
pub record IsGrown (old new : Built) : Type 0 where
  pub languages : HasNamesOf old.languages new.languages
  pub transformations : HasNamesOf old.transformations new.transformations

-- it was built for the name, wherever that is written
abbrev pub IsBuiltNamed : List Item → List ℕ → Lang RowAtom → Type 0
IsBuiltNamed items name l = (n : Name) (type : List ℕ) → n.text ≡ name → type_of items (named n) ≡ Some type → IsBuiltOf items (named n) type l

-- the same of a transformation
abbrev pub IsTransBuiltNamed : List Item → List ℕ → Trans RowAtom RowMap → Type 0
IsTransBuiltNamed items name f = (n : Name) (from into : List ℕ) → n.text ≡ name → IsFrom items (named n) from into → IsTransBuiltOf items (named n) from into f

-- there is a language at the place, which was built for the name
abbrev pub IsLanguageAt : List Item → Built → List ℕ → ℕ → Type 0
IsLanguageAt items b name place = IsThere (IsBuiltNamed items) b.languages.values.items name place

abbrev pub IsTransAt : List Item → Built → List ℕ → ℕ → Type 0
IsTransAt items b name place = IsThere (IsTransBuiltNamed items) b.transformations.values.items name place

-- the sorts of the labels of the type of a name
abbrev pub labels_of : {S : Type 0} → IndexMap (List ℕ) (List Sort) S → List ℕ → Option (List Sort)
labels_of labels name = get bytes_eq labels name

-- a type has the labels that it has in the program, and the others have theirs
pub record AddsLabels {S : Type 0} (items : List Item) (old new : IndexMap (List ℕ) (List Sort) S) (name : List ℕ) : Type 0 where
  pub own : (t : TypeItem) → find_type items name ≡ Some t → labels_of new name ≡ Some (sorts_of (signature_of t))
  pub same : (other : List ℕ) → same_text name other ≡ false → labels_of new other ≡ labels_of old other

-- each type that is declared has its labels
abbrev pub AreLabels : {S : Type 0} → List Item → IndexMap (List ℕ) (List Sort) S → Type 0
AreLabels items labels = (name : List ℕ) (t : TypeItem) → find_type items name ≡ Some t → labels_of labels name ≡ Some (sorts_of (signature_of t))

-- each name has a language or a transformation that was built for it, and each type its labels
pub record AreBuilt (items : List Item) (b : Built) : Type 0 where
  pub languages : AreRight (IsBuiltNamed items) b.languages
  pub transformations : AreRight (IsTransBuiltNamed items) b.transformations
  pub labels : AreLabels items b.labels
