-- Names with numbers, as the code keeps them.
use Rattle.std.specs.Prelude.{◌≡◌, ℕ, Bool, List, Option, Some, None, cond}
use Rattle.std.specs.Str.{bytes_eq}
use Rattle.indexmap.specs.IndexMap.{get}
use Rattle.model_names.specs.Declared.{same_text}
use Rattle.program_check.specs.declared.names.Names.{Names}

-- the number under a name
abbrev pub place_in : Names → List ℕ → Option ℕ
place_in names name = get bytes_eq names.places name

abbrev pub or_else : Option ℕ → Option ℕ → Option ℕ
or_else None later = later
or_else (Some n) later = Some n

-- a name is added with its number, where it wasn't there
pub record Adds (old new : Names) (name : List ℕ) (place : ℕ) : Type 0 where
  pub same : (other : List ℕ) → place_in new other ≡ or_else (place_in old other) (cond (same_text name other) (Some place) None)

-- the names of something that is added with its number
pub record Grows (old new : Names) (has : List ℕ → Bool) (place : ℕ) : Type 0 where
  pub same : (other : List ℕ) → place_in new other ≡ or_else (place_in old other) (cond (has other) (Some place) None)
