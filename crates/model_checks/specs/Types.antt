-- What may fail in a type.
use Rattle.std.specs.Prelude.{ℕ, ℤ, pos, negsuc, Bool, false, ◌==◌, List, [], ◌∷◌, ◌++◌, Option, map, find, is_some, nat_le, slice_get, not}
use Rattle.std.specs.List.{list_any, flat_map}
use Rattle.std.specs.Option.{option_map_or}
use Rattle.model_tree.specs.Limits.{most_fields, most_children}
use Rattle.fast_fault.specs.declared.code.Code.{Code}
use Rattle.fast_fault.specs.declared.code.Code.TheVariants.{NoLeaf, DuplicateName, UnknownName, TooMany}
use Rattle.fast_fault.specs.declared.refusal.Refusal.{Refusal}
use Rattle.model_program.specs.Syntax.{Name, FieldItem, CtorItem, TypeItem}
use Rattle.model_names.specs.Declared.{same_text}
use Rattle.model_checks.specs.Failures.{failure, fails_if}
use Rattle.model_names.specs.Sorts.{sort_named}

-- whether one of the names is this text
abbrev pub is_among : List Name → List ℕ → Bool
is_among names text = list_any (λ n. same_text n.text text) names

-- each name that stood before, behind these names
abbrev pub repeated_behind : Code → List Name → List Name → List Refusal
repeated_behind code before [] = []
repeated_behind code before (n ∷ names) = fails_if (is_among before n.text) code n.place ++ repeated_behind code (before ++ n ∷ []) names

-- each name that stood before
abbrev pub repeated : Code → List Name → List Refusal
repeated code names = repeated_behind code [] names

abbrev pub is_rank : ℕ → ℤ → Bool
is_rank count (pos n) = n == count
is_rank count (negsuc n) = false

-- from 0 to 8
abbrev pub is_rank_in_range : ℤ → Bool
is_rank_in_range (pos n) = nat_le n most_children
is_rank_in_range (negsuc n) = false

-- the sort of a field is unknown
abbrev pub field_failures : FieldItem → List Refusal
field_failures f = fails_if (not (is_some (sort_named f.sort.text))) UnknownName f.sort.place

-- a rank is too great
abbrev pub ctor_failures : CtorItem → List Refusal
ctor_failures c = fails_if (not (is_rank_in_range c.rank)) TooMany c.name.place

-- there is a ninth field
abbrev pub field_limit : List FieldItem → List Refusal
field_limit fields = option_map_or (λ f. failure TooMany f.name.place) (slice_get fields most_fields) []

-- the constructor of a name is the one that is declared first
abbrev pub find_ctor : List CtorItem → List ℕ → Option CtorItem
find_ctor ctors name = find (λ c. same_text c.name.text name) ctors

-- the constructor of this name has no children
abbrev pub is_leaf : List CtorItem → List ℕ → Bool
is_leaf ctors name = option_map_or (λ c. is_rank 0 c.rank) (find_ctor ctors name) false

abbrev pub has_leaf : List CtorItem → Bool
has_leaf ctors = list_any (λ c. is_leaf ctors c.name.text) ctors

-- A type has different fields of known sorts, different constructors, and one of them without children.
abbrev pub type_failures : TypeItem → List Refusal
type_failures t =
    repeated DuplicateName (map (λ f. f.name) t.fields)
    ++ (flat_map field_failures t.fields
    ++ (field_limit t.fields
    ++ (repeated DuplicateName (map (λ c. c.name) t.ctors)
    ++ (fails_if (not (has_leaf t.ctors)) NoLeaf t.name.place
    ++ flat_map ctor_failures t.ctors))))
