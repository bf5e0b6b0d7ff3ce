-- What may fail in a label expression.
use Rattle.std.specs.Prelude.{ℕ, pos, negsuc, ◌&&◌, ◌||◌, Bool, true, false, List, [], ◌∷◌, ◌++◌, Option, Some, None, is_some, nat_le, length, not, encode_utf8_all}
use Rattle.std.specs.Option.{option_map}
use Rattle.fast_fault.specs.declared.code.Code.TheVariants.{UnknownField, WrongSort, NotLinear, BadModulus, NumberRange, TooMany}
use Rattle.fast_fault.specs.declared.place.Pos.{Pos}
use Rattle.fast_fault.specs.declared.refusal.Refusal.{Refusal}
use Rattle.model_tree.specs.Limits.{longest_text}
use Rattle.model_tree.specs.Signature.{Sort, wholes, truths}
use Rattle.model_program.specs.Syntax.{FieldItem}
use Rattle.model_grammar.specs.declared.Chain.TheVariants.{Disjunction, Conjunction, Sum, Product}
use Rattle.model_grammar.specs.declared.Rel.{Rel}
use Rattle.model_grammar.specs.declared.Rel.TheVariants.{Equal, NotEqual, Less, AtMost, Greater, AtLeast}
use Rattle.model_grammar.specs.Syntax.{Expr, field, number, text, truth, negation, compare, minus, chain, Parts, no_parts, part}
use Rattle.model_form.specs.Form.{Form}
use Rattle.model_form.specs.Sums.{number_form, sum_form, product_form}
use Rattle.model_checks.specs.Failures.{fails_if}
use Rattle.model_names.specs.Sorts.{sort_named}
use Rattle.model_checks.specs.Sorts.{Scope, find_field, sort_of, place_of, differ_in_sort, needs_sort}
use Rattle.model_tree.specs.Range.{is_label_number}
use Rattle.model_checks.specs.Forms.{kept, is_out_of_range, divisor_of, has_field, form_in_range, added, product_of, remainder_of}

-- a name that is no field
abbrev pub unknown_field : Scope → List ℕ → Pos → List Refusal
unknown_field None name place = []
unknown_field (Some fields) name place = fails_if (not (is_some (find_field fields name))) UnknownField place

-- An equality compares two of one sort, any other comparison two whole numbers.
abbrev pub compared : Scope → Rel → Expr → Expr → List Refusal
compared scope Equal a b = fails_if (differ_in_sort (sort_of scope a) (sort_of scope b)) WrongSort (place_of b)
compared scope NotEqual a b = fails_if (differ_in_sort (sort_of scope a) (sort_of scope b)) WrongSort (place_of b)
compared scope Less a b = needs_sort scope wholes a ++ needs_sort scope wholes b
compared scope AtMost a b = needs_sort scope wholes a ++ needs_sort scope wholes b
compared scope Greater a b = needs_sort scope wholes a ++ needs_sort scope wholes b
compared scope AtLeast a b = needs_sort scope wholes a ++ needs_sort scope wholes b

-- a step of a product at a place: both sides have a field, or a number of the form is out of range
abbrev pub multiplied : Pos → Bool → Option Form → Bool → Option Form → List Refusal
multiplied place f_has f g_has g = fails_if (f_has && g_has) NotLinear place ++ fails_if (is_out_of_range (product_of f_has f g_has g)) NumberRange place

-- the divisor of a remainder
abbrev pub divided : Expr → List Refusal
divided e = fails_if (not (is_some (divisor_of e))) BadModulus (place_of e)

module _ (scope : Scope) where
  abbrev mutual
    pub label_failures : Expr → List Refusal
    label_failures (field place name) = unknown_field scope name place
    label_failures (number place n) = fails_if (not (is_label_number n)) NumberRange place
    label_failures (text place t) = fails_if (not (nat_le (length (encode_utf8_all t)) longest_text)) TooMany place
    label_failures (truth place b) = []
    label_failures (negation place e) = label_failures e ++ needs_sort scope truths e
    label_failures (compare place rel a b) = label_failures a ++ (label_failures b ++ compared scope rel a b)
    label_failures (minus place e) = label_failures e ++ (needs_sort scope wholes e ++ fails_if (is_out_of_range (option_map (product_form (negsuc 0)) (form_in_range scope e))) NumberRange place)
    label_failures (chain Disjunction place parts) = operands_failures truths parts
    label_failures (chain Conjunction place parts) = operands_failures truths parts
    label_failures (chain Sum place parts) = operands_failures wholes parts ++ fails_if (is_out_of_range (option_map sum_form (added scope parts))) NumberRange place
    label_failures (chain Product place parts) = steps_failures place false (Some (number_form (pos 1))) parts

    -- operands that are to be of this sort
    pub operands_failures : Sort → Parts → List Refusal
    operands_failures sort no_parts = []
    operands_failures sort (part marked e parts) = label_failures e ++ (needs_sort scope sort e ++ operands_failures sort parts)

    -- the steps of a product, behind what stands before these parts
    pub steps_failures : Pos → Bool → Option Form → Parts → List Refusal
    steps_failures place has before no_parts = []
    steps_failures place has before (part true e parts) = label_failures e ++ (needs_sort scope wholes e ++ (divided e
        ++ steps_failures place (has || has_field scope e) (remainder_of before (divisor_of e)) parts))
    steps_failures place has before (part false e parts) = label_failures e ++ (needs_sort scope wholes e ++ (multiplied place has before (has_field scope e) (form_in_range scope e)
        ++ steps_failures place (has || has_field scope e) (kept (product_of has before (has_field scope e) (form_in_range scope e))) parts))

  -- an expression that is to be of this sort
  abbrev pub sorted_failures : Sort → Expr → List Refusal
  sorted_failures sort e = label_failures e ++ needs_sort scope sort e

-- Labels stand for the fields in their order, and each is to be of its field's sort.
abbrev pub needs_sort_of : Scope → FieldItem → Expr → List Refusal
needs_sort_of scope f e = fails_if (differ_in_sort (sort_named f.sort.text) (sort_of scope e)) WrongSort (place_of e)

-- where there are more labels than fields, the others have no sorts to be of
abbrev pub labels_failures : Scope → List FieldItem → List Expr → List Refusal
labels_failures scope fields [] = []
labels_failures scope [] (e ∷ labels) = label_failures scope e ++ labels_failures scope [] labels
labels_failures scope (f ∷ fields) (e ∷ labels) = label_failures scope e ++ (needs_sort_of scope f e ++ labels_failures scope fields labels)
