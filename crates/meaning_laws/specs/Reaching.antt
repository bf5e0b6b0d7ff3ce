-- Names of languages on a type, and of transformations between two.
use Rattle.std.specs.Prelude.{◌≡◌, ◌⊎◌, ℕ, true, List, Some}
use Rattle.model_grammar.specs.Syntax.{LangItem, TransItem, lang, trans, Item}
use Rattle.model_names.specs.Declared.{find_item}
use Rattle.model_checks.specs.Programs.{is_well_formed}
use Rattle.model_meaning.specs.Reached.{Reaches}

-- the name is that of a `lang` of trees of the type with this name
pub record IsLangOn (items : List Item) (name type : List ℕ) : Type 0 where
  pub item : Item
  pub own : LangItem
  pub found : find_item items name ≡ Some item
  pub is : item.body ≡ lang own
  pub on : own.of.text ≡ type

-- of a `trans` between the types with these names
pub record IsTransFrom (items : List Item) (name from into : List ℕ) : Type 0 where
  pub item : Item
  pub own : TransItem
  pub found : find_item items name ≡ Some item
  pub is : item.body ≡ trans own
  pub begins : own.from.text ≡ from
  pub ends : own.into.text ≡ into

-- A language reaches languages on its type. A transformation reaches languages on the type of its inputs, and transformations between its types.
abbrev pub ReachedByLangs : Type 0
ReachedByLangs = (items : List Item) → is_well_formed items ≡ true → (n type m : List ℕ) → IsLangOn items n type → Reaches items n m → IsLangOn items m type

abbrev pub ReachedByTrans : Type 0
ReachedByTrans = (items : List Item) → is_well_formed items ≡ true → (n from into m : List ℕ) → IsTransFrom items n from into → Reaches items n m → IsLangOn items m from ⊎ IsTransFrom items m from into
