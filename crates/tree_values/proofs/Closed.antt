-- Label expressions without fields that pass the check of a program are a label that is kept.
use Rattle.std.proofs.Common.{◌≡◌, inl, inr, suc, Bool, true, false, ◌&&◌, ◌||◌, List, [], ◌∷◌, ◌++◌, map, length, Some, Contains, refl, sym, ap, ap₂, subst, ◌∙◌, arith}
use Rattle.std.proofs.lemmas.Bool.{and_parts}
use Rattle.std.proofs.Math.IntN.{pos}
use Rattle.std.proofs.lemmas.Int.{ints}
use Rattle.std.proofs.lemmas.List.Elements.{Contains-append_left, Contains-append_right, Contains-append_cases}
use Rattle.std.specs.Prelude.{◌==◌, is_some}
use Rattle.std.specs.List.{list_all}
use Rattle.std.specs.Option.{option_map_or}
use Rattle.fast_fault.specs.declared.code.Code.TheVariants.{WrongSort}
use Rattle.fast_fault.specs.declared.refusal.Refusal.{Refusal}
use Rattle.model_tree.specs.Kept.{is_kept_field}
use Rattle.model_tree.specs.Range.{is_label_number}
use Rattle.model_tree.specs.Signature.{Sort, wholes, truths, texts, sort_of, have_sorts}
use Rattle.model_tree.proofs.Sorts.{have_these_sorts}
use Rattle.model_program.specs.Syntax.{FieldItem}
use Rattle.model_grammar.specs.declared.Chain.TheVariants.{Disjunction, Conjunction, Sum, Product}
use Rattle.model_grammar.specs.Syntax.{Expr, field, number, negation, compare, minus, chain, Parts, no_parts, part}
use Rattle.model_grammar.specs.Syntax as syntax
use Rattle.model_label.specs.Meaning.{value_of, as_whole}
use Rattle.model_form.specs.Form.{Form, form, no_remainders, remainder, value}
use Rattle.model_form.specs.Sums.{number_form}
use Rattle.model_guard.specs.Forms.{is_constant, step, form_of, forms_in, forms_in_all, steps, multiplied, is_whole, has_whole, have_whole}
use Rattle.model_guard.proofs.Values.{form_value, whole_sort, guard_sort}
use Rattle.model_guard.proofs.Constants.{no_field_constant}
use Rattle.model_names.specs.Sorts.{sort_named, own_sort}
use Rattle.model_checks.specs.Failures.{fails_if, is_empty}
use Rattle.model_checks.specs.Forms.{is_in_range}
use Rattle.model_checks.specs.Sorts as checks
use Rattle.model_checks.specs.Sorts.{is_other_sort, differ_in_sort, plain_fields}
use Rattle.model_checks.specs.Labels.{label_failures, needs_sort_of, labels_failures}
use Rattle.model_checks.specs.Sound.{IsSoundLabel}
use Rattle.model_checks.proofs.InRange.{is_within}
use Rattle.model_checks.proofs.Soundness.{empty_first, empty_second, empty_both, passed, is_there}
use Rattle.model_checks.proofs.SoundParts.{sound_label}
use Rattle.meaning_laws.proofs.SoundGuards.{sound_guard, sound_whole, sound_text}
use Rattle.record_label.specs.Maps.{is_of_sort, AreOfSorts, forms_in_each}
use Rattle.record_label.specs.Parts.{AreWithin}
use Rattle.record_label.proofs.GuardFacts.{truth_of_sort, whole_of_sort, text_value}
use Rattle.meaning_laws.proofs.Sorted.{suc_equal, none_is_some, some_is_none}
use Rattle.tree_values.specs.Forms.{AreClosed}

-- ---- no fields

mutual
  no_whole : (e : Expr) → has_whole [] e ≡ false
  no_whole (field place name) = refl
  no_whole (number place n) = refl
  no_whole (syntax.text place t) = refl
  no_whole (syntax.truth place b) = refl
  no_whole (negation place e) = no_whole e
  no_whole (compare place rel a b) = ap₂ (λ p q. p || q) (no_whole a) (no_whole b)
  no_whole (minus place e) = no_whole e
  no_whole (chain kind place parts) = none_whole parts

  none_whole : (parts : Parts) → have_whole [] parts ≡ false
  none_whole no_parts = refl
  none_whole (part marked e parts) = ap₂ (λ p q. p || q) (no_whole e) (none_whole parts)

-- ---- ranges

within_one : (fs : List Form) (f : Form) → AreWithin fs → Contains fs f → is_in_range f ≡ true
within_one fs f within at = is_within f (λ n out. within n (f, at, out))

last_in : (fs : List Form) (f : Form) → Contains (fs ++ f ∷ []) f
last_in fs f = Contains-append_right fs (f ∷ []) f (0, omega arith, refl)

within_left : (fs gs : List Form) → AreWithin (fs ++ gs) → AreWithin fs
within_left fs gs within n (f, at, out) = within n (f, Contains-append_left fs gs f at, out)

within_right : (fs gs : List Form) → AreWithin (fs ++ gs) → AreWithin gs
within_right fs gs within n (f, at, out) = within n (f, Contains-append_right fs gs f at, out)

within_both : (fs gs : List Form) → AreWithin fs → AreWithin gs → AreWithin (fs ++ gs)
within_both fs gs first second n (f, at, out) = elim (Contains-append_cases fs gs f at) [
  | inl here ↦ first n (f, here, out)
  | inr there ↦ second n (f, there, out)
]

-- the last step of a product is its form
product_in : (before : Form) (parts : Parts) → is_in_range before ≡ true → AreWithin (steps [] before parts) → is_in_range (multiplied [] before parts) ≡ true
product_in before no_parts own within = own
product_in before (part divides e parts) own within =
    let f = step before divides e (form_of [] e) in
    product_in f parts (within_one (f ∷ steps [] f parts) f within (0, omega arith, refl)) (λ n (g, at, out). within n (g, (suc at.0, omega (arith, at.1), at.2), out))

form_in : (e : Expr) → is_whole [] e ≡ true → AreWithin (forms_in [] e) → is_in_range (form_of [] e) ≡ true
form_in (field place name) is within = absurd (cc)
form_in (number place n) is within = within_one (number_form n ∷ []) (number_form n) within (0, omega arith, refl)
form_in (syntax.text place t) is within = absurd (cc)
form_in (syntax.truth place b) is within = absurd (cc)
form_in (negation place e) is within = absurd (cc)
form_in (compare place rel a b) is within = absurd (cc)
form_in (minus place e) is within = within_one (forms_in [] (minus place e)) (form_of [] (minus place e)) within (last_in (forms_in [] e) (form_of [] (minus place e)))
form_in (chain Disjunction place parts) is within = absurd (cc)
form_in (chain Conjunction place parts) is within = absurd (cc)
form_in (chain Sum place parts) is within = within_one (forms_in [] (chain Sum place parts)) (form_of [] (chain Sum place parts)) within (last_in (forms_in_all [] parts) (form_of [] (chain Sum place parts)))
form_in (chain Product place parts) is within = product_in (number_form (pos 1)) parts refl (within_right (forms_in_all [] parts) (steps [] (number_form (pos 1)) parts) within)

-- ---- values

constant_kept : (f : Form) → is_constant f ≡ true → is_in_range f ≡ true → is_label_number (value f []) ≡ true
constant_kept (form c [] no_remainders) is own = let e : value (form c [] no_remainders) [] ≡ c = omega (arith, ints) in ap is_label_number e ∙ (and_parts (is_label_number c) true own).0
constant_kept (form c [] (remainder a f k rs)) is own = absurd (cc)
constant_kept (form c (t ∷ ts) rs) is own = absurd (cc)

whole_kept : (e : Expr) → is_whole [] e ≡ true → AreWithin (forms_in [] e) → is_kept_field (value_of [] [] e) ≡ true
whole_kept e is within =
    let value_is = whole_of_sort (value_of [] [] e) (whole_sort [] [] e refl is) in
    let number_is : value (form_of [] e) [] ≡ as_whole (value_of [] [] e) = form_value [] [] (omega arith) refl e is in
    ap is_kept_field value_is ∙ (ap is_label_number (sym number_is) ∙ constant_kept (form_of [] e) (no_field_constant [] e (no_whole e)) (form_in e is within))

value_kept : (sort : Sort) (e : Expr) → is_of_sort [] sort e ≡ true → AreWithin (forms_in [] e) → is_kept_field (value_of [] [] e) ≡ true
value_kept wholes e is within = whole_kept e is within
value_kept truths e is within = ap is_kept_field (truth_of_sort (value_of [] [] e) (guard_sort [] [] e refl is))
value_kept texts e is within = ap is_kept_field (text_value [] [] e refl is)

value_sorted : (sort : Sort) (e : Expr) → is_of_sort [] sort e ≡ true → sort_of (value_of [] [] e) ≡ sort
value_sorted wholes e is = whole_sort [] [] e refl is
value_sorted truths e is = guard_sort [] [] e refl is
value_sorted texts e is = ap sort_of (text_value [] [] e refl is)

values_sorted : (sorts : List Sort) (labels : List Expr) → AreOfSorts [] labels sorts → map sort_of (map (value_of [] []) labels) ≡ sorts
values_sorted [] [] are = refl
values_sorted [] (e ∷ labels) are = absurd are
values_sorted (s ∷ sorts) [] are = absurd are
values_sorted (s ∷ sorts) (e ∷ labels) are = ap₂ (λ x xs. x ∷ xs) (value_sorted s e are.0) (values_sorted sorts labels are.1)

-- the label has the sorts
pub label_sorted : (sorts : List Sort) (labels : List Expr) → AreOfSorts [] labels sorts → have_sorts sorts (map (value_of [] []) labels) ≡ true
label_sorted sorts labels are = have_these_sorts sorts (map (value_of [] []) labels) (values_sorted sorts labels are)

values_kept : (sorts : List Sort) (labels : List Expr) → AreOfSorts [] labels sorts → AreWithin (forms_in_each [] labels) → list_all is_kept_field (map (value_of [] []) labels) ≡ true
values_kept [] [] are within = refl
values_kept [] (e ∷ labels) are within = absurd are
values_kept (s ∷ sorts) [] are within = absurd are
values_kept (s ∷ sorts) (e ∷ labels) are within =
    ap₂ (λ a b. a && b) (value_kept s e are.0 (within_left (forms_in [] e) (forms_in_each [] labels) within)) (values_kept sorts labels are.1 (within_right (forms_in [] e) (forms_in_each [] labels) within))

-- ---- what the check of a program finds

record IsFine (sort : Sort) (e : Expr) : Type 0 where
  is : is_of_sort [] sort e ≡ true
  within : AreWithin (forms_in [] e)

fine_of : (sort : Sort) (e : Expr) → IsSoundLabel [] sort e → IsFine sort e
fine_of wholes e h = let w = sound_whole [] refl (omega arith) e h in record { is = w.is; within = w.within }
fine_of truths e h = let g = sound_guard [] refl (omega arith) e h in record { is = g.is; within = g.within }
fine_of texts e h = let t = sound_text [] refl (omega arith) e h in record { is = t.is; within = t.within }

-- the sorts as the type's signature has them
abbrev sorts_of_fields : List FieldItem → List Sort
sorts_of_fields into = map (λ f. f.sort) (plain_fields into)

record AreFine (into : List FieldItem) (labels : List Expr) : Type 0 where
  sorted : AreOfSorts [] labels (sorts_of_fields into)
  within : AreWithin (forms_in_each [] labels)

all_fine : (into : List FieldItem) (labels : List Expr) → list_all (λ f. is_some (sort_named f.sort.text)) into ≡ true → (length into == length labels) ≡ true → is_empty (labels_failures (Some []) into labels) ≡ true → AreFine into labels
all_fine [] [] named many fine = record { sorted = tt; within = λ n (f, at, out). omega (arith, at.1) }
all_fine [] (e ∷ labels) named many fine = absurd (none_is_some (length labels) many)
all_fine (f ∷ into) [] named many fine = absurd (some_is_none (length into) many)
all_fine (f ∷ into) (e ∷ labels) named many fine =
    let two = and_parts (is_some (sort_named f.sort.text)) (list_all (λ g. is_some (sort_named g.sort.text)) into) named in
    let own = is_there (sort_named f.sort.text) two.0 in
    let rest = needs_sort_of (Some []) f e ++ labels_failures (Some []) into labels in
    let failing = empty_first (label_failures (Some []) e) rest fine in
    let behind = empty_second (label_failures (Some []) e) rest fine in
    let needed = passed (differ_in_sort (sort_named f.sort.text) (checks.sort_of (Some []) e)) _ _ (empty_first (needs_sort_of (Some []) f e) (labels_failures (Some []) into labels) behind) in
    let same : is_other_sort own.0 (checks.sort_of (Some []) e) ≡ false = ap (λ o. differ_in_sort o (checks.sort_of (Some []) e)) (sym own.1) ∙ needed in
    let sound = sound_label [] own.0 e refl (empty_both (label_failures (Some []) e) _ failing (ap (λ b. is_empty (fails b)) same)) in
    let first = fine_of (own_sort f) e (subst (λ s. IsSoundLabel [] s e) (sym (same_named f own.0 own.1)) sound) in
    let later = all_fine into labels two.1 (suc_equal (length into) (length labels) many) (empty_second (needs_sort_of (Some []) f e) (labels_failures (Some []) into labels) behind) in
    record { sorted = (first.is, later.sorted); within = within_both (forms_in [] e) (forms_in_each [] labels) first.within later.within }
  where
    fails : Bool → List Refusal
    fails b = fails_if b WrongSort (checks.place_of e)

    same_named : (f : FieldItem) (s : Sort) → sort_named f.sort.text ≡ Some s → own_sort f ≡ s
    same_named f s e = ap (λ o. option_map_or (λ sort. sort) o texts) e

pub closed_labels : (into : List FieldItem) (labels : List Expr) → list_all (λ f. is_some (sort_named f.sort.text)) into ≡ true → (length into == length labels) ≡ true → is_empty (labels_failures (Some []) into labels) ≡ true → AreClosed (sorts_of_fields into) labels
closed_labels into labels named many fine =
    let all = all_fine into labels named many fine in
    record { sorted = all.sorted; within = all.within; kept = values_kept (sorts_of_fields into) labels all.sorted all.within }
