-- The sorts that fields are declared with.
use Rattle.std.specs.Prelude.{ℕ, List, Option, Some, None, cond, codes}
use Rattle.std.specs.Option.{option_map_or}
use Rattle.model_tree.specs.Signature.{Sort, wholes, truths, texts}
use Rattle.model_program.specs.Syntax.{FieldItem}
use Rattle.model_names.specs.Declared.{same_text}

-- the sort of this name
abbrev pub sort_named : List ℕ → Option Sort
sort_named name =
    cond (same_text name (codes "Int")) (Some wholes) (
    cond (same_text name (codes "Bool")) (Some truths) (
    cond (same_text name (codes "String")) (Some texts) None))

-- the sort of a field; one of an unknown sort counts as a text
abbrev pub own_sort : FieldItem → Sort
own_sort f = option_map_or (λ sort. sort) (sort_named f.sort.text) texts
