-- The fields of a type by their names. Where a name stands twice, the first field counts.
use Rattle.std.specs.Prelude.{ℕ, suc, Bool, true, false, List, [], ◌∷◌, Option, Some, None, cond}
use Rattle.std.specs.Str.{bytes_eq}
use Rattle.model_tree.specs.Label.{Field, truth}
use Rattle.model_tree.specs.Signature.{Sort, wholes, truths, texts, PlainField}

-- whether two names are the same
abbrev pub same_name : List ℕ → List ℕ → Bool
same_name = bytes_eq

abbrev pub same_sort : Sort → Sort → Bool
same_sort wholes wholes = true
same_sort wholes truths = false
same_sort wholes texts = false
same_sort truths wholes = false
same_sort truths truths = true
same_sort truths texts = false
same_sort texts wholes = false
same_sort texts truths = false
same_sort texts texts = true

-- the sort of the field with this name
abbrev pub sort_at : List PlainField → List ℕ → Option Sort
sort_at [] name = None
sort_at (f ∷ fs) name = cond (same_name f.name name) (Some f.sort) (sort_at fs name)

-- whether there is such a field, of this sort
abbrev pub is_field_of : Sort → Option Sort → Bool
is_field_of sort None = false
is_field_of sort (Some found) = same_sort found sort

abbrev pub has_field : List PlainField → Sort → List ℕ → Bool
has_field fields sort name = is_field_of sort (sort_at fields name)

-- how many fields of a sort stand before the field with this name; all that there are, where there is none
abbrev pub number_at : List PlainField → Sort → List ℕ → ℕ
number_at [] sort name = 0
number_at (f ∷ fs) sort name = cond (same_name f.name name) 0 (cond (same_sort f.sort sort) (suc (number_at fs sort name)) (number_at fs sort name))

-- the value of the field with this name, where the fields have these values
abbrev pub value_at : List PlainField → List Field → List ℕ → Field
value_at [] values name = truth false
value_at (f ∷ fs) [] name = truth false
value_at (f ∷ fs) (value ∷ values) name = cond (same_name f.name name) value (value_at fs values name)
