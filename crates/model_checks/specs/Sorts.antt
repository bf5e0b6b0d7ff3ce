-- The sorts of label expressions.
use Rattle.std.specs.Prelude.{ℕ, Bool, false, List, Option, Some, None, find, map, not}
use Rattle.std.specs.Option.{option_and_then}
use Rattle.fast_fault.specs.declared.code.Code.TheVariants.{WrongSort}
use Rattle.fast_fault.specs.declared.place.Pos.{Pos}
use Rattle.fast_fault.specs.declared.refusal.Refusal.{Refusal}
use Rattle.model_tree.specs.Signature.{Sort, wholes, truths, texts, PlainField}
use Rattle.model_program.specs.Syntax.{FieldItem}
use Rattle.model_grammar.specs.declared.Chain.TheVariants.{Disjunction, Conjunction, Sum, Product}
use Rattle.model_grammar.specs.Syntax.{Expr, field, number, text, truth, negation, compare, minus, chain}
use Rattle.model_label.specs.Fields.{same_sort}
use Rattle.model_names.specs.Declared.{same_text}
use Rattle.model_names.specs.Sorts.{sort_named, own_sort}
use Rattle.model_checks.specs.Failures.{fails_if}

-- The fields whose names an expression may have, where the type is declared whose labels it speaks of.
abbrev pub Scope : Type 0
Scope = Option (List FieldItem)

abbrev pub find_field : List FieldItem → List ℕ → Option FieldItem
find_field fields name = find (λ f. same_text f.name.text name) fields

-- the sort of the field of this name
abbrev pub field_sort : Scope → List ℕ → Option Sort
field_sort scope name = option_and_then (λ f. sort_named f.sort.text) (option_and_then (λ fields. find_field fields name) scope)

abbrev pub plain_fields : List FieldItem → List PlainField
plain_fields fields = map (λ f. record { name = f.name.text; sort = own_sort f }) fields

-- What an operator makes has its sort whatever the operands are.
abbrev pub sort_of : Scope → Expr → Option Sort
sort_of scope (field place name) = field_sort scope name
sort_of scope (number place n) = Some wholes
sort_of scope (text place t) = Some texts
sort_of scope (truth place b) = Some truths
sort_of scope (negation place e) = Some truths
sort_of scope (compare place rel a b) = Some truths
sort_of scope (minus place e) = Some wholes
sort_of scope (chain Disjunction place parts) = Some truths
sort_of scope (chain Conjunction place parts) = Some truths
sort_of scope (chain Sum place parts) = Some wholes
sort_of scope (chain Product place parts) = Some wholes

abbrev pub place_of : Expr → Pos
place_of (field place name) = place
place_of (number place n) = place
place_of (text place t) = place
place_of (truth place b) = place
place_of (negation place e) = place
place_of (compare place rel a b) = place
place_of (minus place e) = place
place_of (chain kind place parts) = place

-- whether it is known to be of another sort
abbrev pub is_other_sort : Sort → Option Sort → Bool
is_other_sort sort None = false
is_other_sort sort (Some found) = not (same_sort found sort)

abbrev pub differ_in_sort : Option Sort → Option Sort → Bool
differ_in_sort None found = false
differ_in_sort (Some sort) found = is_other_sort sort found

-- the expression isn't of this sort
abbrev pub needs_sort : Scope → Sort → Expr → List Refusal
needs_sort scope sort e = fails_if (is_other_sort sort (sort_of scope e)) WrongSort (place_of e)
