-- What is noted and known of a label expression, from what is so of its parts.
use Rattle.std.proofs.Common.{◌≡◌, Bool, List, Option, Some, None, refl, sym, ap, ap₂, ◌∙◌, subst, append_assoc, ◌++◌}
use Rattle.std.specs.Prelude.{negsuc}
use Rattle.std.specs.Option.{option_map}
use Rattle.fast_fault.specs.declared.code.Code.TheVariants.{NumberRange, WrongSort}
use Rattle.fast_fault.specs.declared.place.Pos.{Pos}
use Rattle.model_tree.specs.Signature.{Sort, wholes, truths}
use Rattle.model_form.specs.Form.{Form}
use Rattle.model_form.specs.Sums.{Part, sum_form, product_form}
use Rattle.model_grammar.specs.declared.Chain.TheVariants.{Disjunction, Conjunction, Sum}
use Rattle.model_grammar.specs.declared.Rel.{Rel}
use Rattle.model_grammar.specs.declared.Rel.TheVariants.{Equal, NotEqual, Less, AtMost, Greater, AtLeast}
use Rattle.model_grammar.specs.Syntax.{Expr, compare, minus, chain, Parts}
use Rattle.fast_tree.specs.declared.signature.Sort.TheVariants as sorts
use Rattle.fast_tree.specs.Signatures.{plain_sort}
use Rattle.model_checks.specs.Failures.{fails_if}
use Rattle.model_checks.specs.Sorts as model
use Rattle.model_checks.specs.Sorts.{needs_sort, is_other_sort, differ_in_sort, place_of}
use Rattle.model_names.specs.Sorts.{sort_named}
use Rattle.model_program.specs.Syntax.{FieldItem}
use Rattle.fast_syntax.specs.declared.expressions.Expr as code
use Rattle.fast_syntax.specs.Plain.{plain_expr}
use Rattle.program_check.specs.declared.labels.Side.{Side}
use Rattle.program_check.proofs.Places.{place_is}
use Rattle.model_checks.specs.Forms.{is_out_of_range, has_field, have_field, form_in_range, kept, added}
use Rattle.model_checks.specs.Labels.{label_failures, sorted_failures, operands_failures, compared, needs_sort_of}
use Rattle.program_check.specs.declared.labels.Scope.{Scope}
use Rattle.program_check.specs.declared.labels.Known.{Known}
use Rattle.program_check.specs.Known.{plain_scope, IsKnown, AreTruths, sort_failures, sides_failures, field_sort_failures, next_failures, step_failures}
use Rattle.program_check.specs.Notes.{Noted}
use Rattle.program_check.specs.declared.checker.Checker.{Checker}
use Rattle.program_check.proofs.Noting.{next, same}

pub minus_noted : (s : model.Scope) (e : Expr) (place : Pos) (form : Option Form) (a b c : Checker) → form ≡ form_in_range s e → Noted a b (sorted_failures s wholes e)
    → Noted b c (fails_if (is_out_of_range (option_map (product_form (negsuc 0)) form)) NumberRange place) → Noted a c (label_failures s (minus place e))
minus_noted s e place form a b c is one two =
    same (append_assoc (label_failures s e) (needs_sort s wholes e) (fails_if (is_out_of_range (option_map (product_form (negsuc 0)) (form_in_range s e))) NumberRange place))
    (next one (same (ap (λ f. fails_if (is_out_of_range (option_map (product_form (negsuc 0)) f)) NumberRange place) is) two))

pub sum_noted : (s : model.Scope) (parts : Parts) (place : Pos) (acc : Option (List Part)) (a b c : Checker) → acc ≡ added s parts → Noted a b (operands_failures s wholes parts)
    → Noted b c (fails_if (is_out_of_range (option_map sum_form acc)) NumberRange place) → Noted a c (label_failures s (chain Sum place parts))
sum_noted s parts place acc a b c is one two = next one (same (ap (λ x. fails_if (is_out_of_range (option_map sum_form x)) NumberRange place) is) two)

-- what is known of a side of a comparison
pub record IsSide (s : model.Scope) (e : Expr) (side : Side) : Type 0 where
  pub sort : option_map plain_sort side.sort ≡ model.sort_of s e
  pub has : side.has_field ≡ has_field s e
  pub place : side.place ≡ place_of e

pub side_is : (scope : Scope) (e : code.Expr) (known : Known) (side : Side) → side ≡ record { sort = known.sort; has_field = known.has_field; place = e.place } → IsKnown scope (plain_expr e) known → IsSide (plain_scope scope) (plain_expr e) side
side_is scope e known side is h = record {
  sort = ap (λ (x : Side). option_map plain_sort x.sort) is ∙ h.sort;
  has = ap (λ (x : Side). x.has_field) is ∙ h.has;
  place = ap (λ (x : Side). x.place) is ∙ sym (place_is e);
}

abbrev side_of : Known → code.Expr → Side
side_of known e = record { sort = known.sort; has_field = known.has_field; place = e.place }

pub side_at : (scope : Scope) (e e1 e2 : code.Expr) (known : Known) (side : Side) → e1 ≡ e → e2 ≡ e → side ≡ record { sort = known.sort; has_field = known.has_field; place = e2.place } → IsKnown scope (plain_expr e1) known → IsSide (plain_scope scope) (plain_expr e) side
side_at scope e e1 e2 known side p q is h = side_is scope e known side (is ∙ ap (side_of known) q) (subst (λ (x : code.Expr). IsKnown scope (plain_expr x) known) p h)

-- an expression of another sort than it is to be
pub other_sort : (scope : Scope) (sort : Sort) (e : code.Expr) (known : Known) → IsKnown scope (plain_expr e) known → fails_if (is_other_sort sort (option_map plain_sort known.sort)) WrongSort e.place ≡ needs_sort (plain_scope scope) sort (plain_expr e)
other_sort scope sort e known h = ap₂ (λ o p. fails_if (is_other_sort sort o) WrongSort p) h.sort (sym (place_is e))

pub sort_are : (s : model.Scope) (sort : Sort) (e : Expr) (side : Side) → IsSide s e side → sort_failures sort side ≡ needs_sort s sort e
sort_are s sort e side h = ap₂ (λ o p. fails_if (is_other_sort sort o) WrongSort p) h.sort h.place

pub field_sort_are : (s : model.Scope) (f : FieldItem) (e : Expr) (side : Side) → IsSide s e side → field_sort_failures f side ≡ needs_sort_of s f e
field_sort_are s f e side h = ap₂ (λ o p. fails_if (differ_in_sort (sort_named f.sort.text) o) WrongSort p) h.sort h.place

same_sorts : (s : model.Scope) (x y : Expr) (l r : Side) → IsSide s x l → IsSide s y r → fails_if (differ_in_sort (option_map plain_sort l.sort) (option_map plain_sort r.sort)) WrongSort r.place ≡ fails_if (differ_in_sort (model.sort_of s x) (model.sort_of s y)) WrongSort (place_of y)
same_sorts s x y l r h g = λ i. fails_if (differ_in_sort (h.sort i) (g.sort i)) WrongSort (g.place i)

pub sides_are : (s : model.Scope) (rel : Rel) (x y : Expr) (l r : Side) → IsSide s x l → IsSide s y r → sides_failures rel l r ≡ compared s rel x y
sides_are s Equal x y l r h g = same_sorts s x y l r h g
sides_are s NotEqual x y l r h g = same_sorts s x y l r h g
sides_are s Less x y l r h g = ap₂ (λ a b. a ++ b) (sort_are s wholes x l h) (sort_are s wholes y r g)
sides_are s AtMost x y l r h g = ap₂ (λ a b. a ++ b) (sort_are s wholes x l h) (sort_are s wholes y r g)
sides_are s Greater x y l r h g = ap₂ (λ a b. a ++ b) (sort_are s wholes x l h) (sort_are s wholes y r g)
sides_are s AtLeast x y l r h g = ap₂ (λ a b. a ++ b) (sort_are s wholes x l h) (sort_are s wholes y r g)

pub compare_noted : (s : model.Scope) (rel : Rel) (place : Pos) (x x1 y y2 : Expr) (l r : Side) (a b c d : Checker) → x1 ≡ x → y2 ≡ y → IsSide s x l → IsSide s y r
    → Noted a b (label_failures s x1) → Noted b c (label_failures s y2) → Noted c d (sides_failures rel l r) → Noted a d (label_failures s (compare place rel x y))
compare_noted s rel place x x1 y y2 l r a b c d p q h g one two three =
    next (same (ap (label_failures s) p) one) (next (same (ap (label_failures s) q) two) (same (sides_are s rel x y l r h g) three))

pub step_noted : (s : model.Scope) (place : Pos) (has : Bool) (form : Option Form) (m : Bool) (e : Expr) (also : Bool) (factor : Option Form) (a b c : Checker) → also ≡ has_field s e → factor ≡ form_in_range s e
    → Noted a b (sorted_failures s wholes e) → Noted b c (next_failures place has form m also factor e) → Noted a c (step_failures s place has form m e)
step_noted s place has form m e also factor a b c also_is factor_is one two =
    same (append_assoc (label_failures s e) (needs_sort s wholes e) (next_failures place has form m (has_field s e) (form_in_range s e) e)) (next one (same (ap₂ (λ h f. next_failures place has form m h f e) also_is factor_is) two))

-- truth values are one, in a disjunction and in a conjunction
pub or_known : (scope : Scope) (place : Pos) (parts : Parts) (known : Known) → AreTruths scope parts known → IsKnown scope (chain Disjunction place parts) known
or_known scope place parts known are = record { sort = are.sort; has = are.has; form = are.form }

pub and_known : (scope : Scope) (place : Pos) (parts : Parts) (known : Known) → AreTruths scope parts known → IsKnown scope (chain Conjunction place parts) known
and_known scope place parts known are = record { sort = are.sort; has = are.has; form = are.form }

pub truth_known : (scope : Scope) (e : Expr) (known : Known) (has : Bool) → known ≡ record { sort = Some sorts.Bool; has_field = has; form = None } → Some truths ≡ model.sort_of (plain_scope scope) e → has ≡ has_field (plain_scope scope) e → None ≡ form_in_range (plain_scope scope) e → IsKnown scope e known
truth_known scope e known has is sort_is has_is form_is = record {
  sort = ap (λ (k : Known). option_map plain_sort k.sort) is ∙ sort_is;
  has = ap (λ (k : Known). k.has_field) is ∙ has_is;
  form = ap (λ (k : Known). k.form) is ∙ form_is;
}

-- a number with its sign changed
pub minus_known : (scope : Scope) (e : Expr) (place : Pos) (inside : Known) (form : Option Form) → IsKnown scope e inside → form ≡ kept (option_map (product_form (negsuc 0)) inside.form)
    → IsKnown scope (minus place e) (record { sort = Some sorts.Int; has_field = inside.has_field; form = form })
minus_known scope e place inside form of is = record {
  sort = refl;
  has = of.has;
  form = is ∙ ap (λ f. kept (option_map (product_form (negsuc 0)) f)) of.form;
}

pub truths_known : (scope : Scope) (parts : Parts) (known : Known) (has : Bool) → known ≡ record { sort = Some sorts.Bool; has_field = has; form = None } → has ≡ have_field (plain_scope scope) parts → AreTruths scope parts known
truths_known scope parts known has is has_is = record {
  sort = ap (λ (k : Known). option_map plain_sort k.sort) is;
  has = ap (λ (k : Known). k.has_field) is ∙ has_is;
  form = ap (λ (k : Known). k.form) is;
}
