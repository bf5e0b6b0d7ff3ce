-- Declarations with numbers, as the code keeps them.
use Rattle.std.specs.Prelude.{◌≡◌, ℕ, suc, Bool, false, List, [], ◌∷◌, ◌++◌, Option, Some, None, map, nat_lt, cond, slice_get}
use Rattle.std.specs.Option.{option_map, option_map_or, option_and_then}
use Rattle.model_program.specs.Syntax.{Name, CtorItem, TypeItem}
use Rattle.model_grammar.specs.Syntax.{Body, sorts, tree, lang, trans, def, assertion, Item}
use Rattle.model_names.specs.Declared.{same_text, declares}
use Rattle.program_check.specs.declared.names.Names.{Names}
use Rattle.program_check.specs.declared.declarations.Declarations.{Declarations}
use Rattle.program_check.specs.Naming.{place_in, Grows}

-- the number of the first that passes
abbrev pub place_by : {A : Type 0} → (A → Bool) → List A → Option ℕ
place_by p [] = None
place_by p (x ∷ xs) = cond (p x) (Some 0) (option_map (λ n. suc n) (place_by p xs))

abbrev pub own_type_item : Body → Option TypeItem
own_type_item (sorts t) = Some t
own_type_item (tree t) = None
own_type_item (lang l) = None
own_type_item (trans t) = None
own_type_item (def d) = None
own_type_item (assertion a) = None

-- whether an item is a type of this name
abbrev pub declares_type : List ℕ → Item → Bool
declares_type name item = option_map_or (λ t. same_text t.name.text name) (own_type_item item.body) false

-- the number of the first of these names that is this text
abbrev pub name_place : List Name → List ℕ → Option ℕ
name_place names text = place_by (λ n. same_text n.text text) names

-- whether a constructor has this name
abbrev pub is_ctor : List ℕ → CtorItem → Bool
is_ctor name c = same_text c.name.text name

-- the number of the constructor of this name
abbrev pub ctor_place : List CtorItem → List ℕ → Option ℕ
ctor_place ctors name = place_by (is_ctor name) ctors

-- the constructors of an item, where it is a type
abbrev pub own_ctors : Item → List CtorItem
own_ctors item = option_map_or (λ t. t.ctors) (own_type_item item.body) []

-- the constructors have their numbers
abbrev pub HasCtors : List CtorItem → Names → Type 0
HasCtors ctors names = (name : List ℕ) → place_in names name ≡ ctor_place ctors name

-- the type that the item of a number is
abbrev pub type_there : List Item → Option ℕ → Option TypeItem
type_there items place = option_and_then (λ item. own_type_item item.body) (option_and_then (slice_get items) place)

abbrev pub is_below : Option ℕ → ℕ → Bool
is_below None n = false
is_below (Some k) n = nat_lt k n

-- each name has the number of the first item that declares it, and each constructor its number in its type
pub record AreNumbered (items : List Item) (d : Declarations) : Type 0 where
  pub types : (name : List ℕ) → place_in d.types name ≡ place_by (declares_type name) items
  pub names : (name : List ℕ) → place_in d.names name ≡ place_by (declares name) items
  pub ctors : map place_in d.ctors.items ≡ map (λ item. ctor_place (own_ctors item)) items

-- what an item declares is added, with the item's number
pub record Declares (old new : Declarations) (item : Item) (place : ℕ) : Type 0 where
  pub types : Grows old.types new.types (λ name. declares_type name item) place
  pub names : Grows old.names new.names (λ name. declares name item) place
  pub ctors : map place_in new.ctors.items ≡ map place_in old.ctors.items ++ ctor_place (own_ctors item) ∷ []
