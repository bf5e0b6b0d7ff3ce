-- Values that are kept under names.
use Rattle.std.specs.Prelude.{◌≡◌, ◌<◌, ℕ, true, List, [], ◌∷◌, ◌++◌, Option, Some, None, cond, get_or, length, is_some}
use Rattle.std.specs.Str.{bytes_eq}
use Rattle.indexmap.specs.IndexMap.{get}
use Rattle.model_names.specs.Declared.{same_text}
use Rattle.fast_eval.specs.declared.table.Table.{Table}

abbrev pub or_else : Option ℕ → Option ℕ → Option ℕ
or_else None later = later
or_else (Some n) later = Some n

module _ {V : Type 0} where
  -- the place of the value of a name
  abbrev pub place_in : Table V → List ℕ → Option ℕ
  place_in t name = get bytes_eq t.places name

  -- no value, and no name
  pub record IsBare (t : Table V) : Type 0 where
    pub values : t.values.items ≡ []
    pub names : (name : List ℕ) → place_in t name ≡ None

  -- the name has a value
  abbrev pub HasName : Table V → List ℕ → Type 0
  HasName t name = is_some (place_in t name) ≡ true

  -- each name that had a value has one
  abbrev pub HasNamesOf : Table V → Table V → Type 0
  HasNamesOf old new = (name : List ℕ) → HasName old name → HasName new name

  -- a name has the place, unless it had one, and the other names have theirs
  abbrev pub PutsName : Table V → Table V → List ℕ → ℕ → Type 0
  PutsName old new name place = (other : List ℕ) → place_in new other ≡ or_else (place_in old other) (cond (same_text name other) (Some place) None)

  -- the name has the place, and there are the same values
  pub record IsNamedAt (old new : Table V) (name : List ℕ) (place : ℕ) : Type 0 where
    pub values : new.values.items ≡ old.values.items
    pub names : PutsName old new name place

  -- the name has the value, which is one more
  pub record IsAdded (old new : Table V) (name : List ℕ) (value : V) : Type 0 where
    pub values : new.values.items ≡ old.values.items ++ value ∷ []
    pub names : PutsName old new name (length old.values.items)

  -- each name has the value that it had; there may be one more without a name
  pub record IsKept (old new : Table V) : Type 0 where
    pub more : List V
    pub values : new.values.items ≡ old.values.items ++ more
    pub names : (other : List ℕ) → place_in new other ≡ place_in old other

  -- there is a value at the place, which is right for the name
  pub record IsThere (P : List ℕ → V → Type 0) (values : List V) (name : List ℕ) (place : ℕ) : Type 0 where
    pub low : place < length values
    pub is : (d : V) → P name (get_or values place d)

  -- the value of each name is right for it
  abbrev pub AreRight : (List ℕ → V → Type 0) → Table V → Type 0
  AreRight P t = (name : List ℕ) (place : ℕ) → place_in t name ≡ Some place → IsThere P t.values.items name place
