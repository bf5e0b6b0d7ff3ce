-- What is known of a label expression once it is checked.
use Rattle.std.specs.Prelude.{◌≡◌, ℕ, Bool, true, false, List, ◌++◌, Option, Some, None, Result, Ok, Err, map, is_some}
use Rattle.std.specs.Option.{option_map, option_map_or}
use Rattle.fast_fault.specs.declared.code.Code.TheVariants.{WrongSort}
use Rattle.fast_fault.specs.declared.place.Pos.{Pos}
use Rattle.fast_fault.specs.declared.refusal.Refusal.{Refusal}
use Rattle.model_program.specs.Syntax.{FieldItem}
use Rattle.model_grammar.specs.declared.Rel.{Rel}
use Rattle.model_grammar.specs.declared.Rel.TheVariants.{Equal, NotEqual, Less, AtMost, Greater, AtLeast}
use Rattle.model_tree.specs.Signature.{Sort, wholes, truths}
use Rattle.model_form.specs.Form.{Form}
use Rattle.model_form.specs.Sums.{Part}
use Rattle.model_grammar.specs.Syntax.{Expr, Parts}
use Rattle.lin_form.specs.declared.stop.FormStop.{FormStop}
use Rattle.lin_form.specs.declared.stop.FormStop.TheVariants.{Range, Memory}
use Rattle.lin_form.specs.declared.sum.Signed.{Signed}
use Rattle.lin_form.specs.Gathered.{plain_parts}
use Rattle.fast_tree.specs.declared.signature.Sort as code
use Rattle.fast_tree.specs.Signatures.{plain_sort}
use Rattle.model_label.specs.Fields.{same_sort, number_at}
use Rattle.fast_syntax.specs.View.{plain_field}
use Rattle.std.specs.Global.{Vec}
use Rattle.model_checks.specs.Sorts as model
use Rattle.model_names.specs.Sorts.{sort_named}
use Rattle.model_checks.specs.Failures.{fails_if}
use Rattle.model_checks.specs.Sorts.{find_field, field_sort, plain_fields, sort_of, needs_sort, is_other_sort, differ_in_sort}
use Rattle.model_checks.specs.Forms.{has_field, have_field, form_in_range, kept, product_of, remainder_of, divisor_of}
use Rattle.model_checks.specs.Labels.{label_failures, multiplied, divided}
use Rattle.program_check.specs.declared.labels.Scope.{Scope}
use Rattle.program_check.specs.declared.labels.Known.{Known}
use Rattle.program_check.specs.declared.labels.Side.{Side}

abbrev pub plain_scope : Scope → model.Scope
plain_scope scope = option_map (λ fields. map plain_field fields.now) scope.fields

abbrev pub is_whole : Option Sort → Bool
is_whole sort = option_map_or (λ s. same_sort s wholes) sort false

-- there is a field of this name, with its sort and its number among the whole numbers
pub record IsField (fields : List FieldItem) (name : List ℕ) (told : Option code.Sort) (count : ℕ) : Type 0 where
  pub there : is_some (find_field fields name) ≡ true
  pub sort : option_map plain_sort told ≡ field_sort (Some fields) name
  pub number : count ≡ number_at (plain_fields fields) wholes name

-- its sort, whether it has a field, and its form
pub record IsKnown (scope : Scope) (e : Expr) (known : Known) : Type 0 where
  pub sort : option_map plain_sort known.sort ≡ sort_of (plain_scope scope) e
  pub has : known.has_field ≡ has_field (plain_scope scope) e
  pub form : known.form ≡ form_in_range (plain_scope scope) e

-- the form that was made
abbrev pub IsTaken : {E : Type 0} → Result Form E → Option Form → Type 0
IsTaken made None = ⊥
IsTaken made (Some f) = made ≡ Ok f

-- the form that was made, and whether none was for a number out of range
abbrev pub form_made : Result Form FormStop → Option Form
form_made (Ok f) = Some f
form_made (Err stop) = None

abbrev pub is_range : Result Form FormStop → Bool
is_range (Ok f) = false
is_range (Err (Range n)) = true
is_range (Err Memory) = false

-- the parts of a sum, where all have forms
abbrev pub plain_added : Option (Vec Signed) → Option (List Part)
plain_added = option_map (λ parts. plain_parts parts.items)

-- further parts of a sum
abbrev pub joined : Option (List Part) → Option (List Part) → Option (List Part)
joined None later = None
joined (Some parts) None = None
joined (Some parts) (Some later) = Some (parts ++ later)

-- several truth values, as all of them are together
pub record AreTruths (scope : Scope) (parts : Parts) (known : Known) : Type 0 where
  pub sort : option_map plain_sort known.sort ≡ Some truths
  pub has : known.has_field ≡ have_field (plain_scope scope) parts
  pub form : known.form ≡ None

-- what fails where something is to be of a sort
abbrev pub sort_failures : Sort → Side → List Refusal
sort_failures sort side = fails_if (is_other_sort sort (option_map plain_sort side.sort)) WrongSort side.place

-- what fails at the sides of a comparison
abbrev pub sides_failures : Rel → Side → Side → List Refusal
sides_failures Equal left right = fails_if (differ_in_sort (option_map plain_sort left.sort) (option_map plain_sort right.sort)) WrongSort right.place
sides_failures NotEqual left right = fails_if (differ_in_sort (option_map plain_sort left.sort) (option_map plain_sort right.sort)) WrongSort right.place
sides_failures Less left right = sort_failures wholes left ++ sort_failures wholes right
sides_failures AtMost left right = sort_failures wholes left ++ sort_failures wholes right
sides_failures Greater left right = sort_failures wholes left ++ sort_failures wholes right
sides_failures AtLeast left right = sort_failures wholes left ++ sort_failures wholes right

-- what fails where a label isn't of its field's sort
abbrev pub field_sort_failures : FieldItem → Side → List Refusal
field_sort_failures f label = fails_if (differ_in_sort (sort_named f.sort.text) (option_map plain_sort label.sort)) WrongSort label.place

-- what fails where a product goes on, to a remainder or by a factor of which this is known
abbrev pub next_failures : Pos → Bool → Option Form → Bool → Bool → Option Form → Expr → List Refusal
next_failures place has before true also factor e = divided e
next_failures place has before false also factor e = multiplied place has before also factor

abbrev pub next_form : Bool → Option Form → Bool → Bool → Option Form → Expr → Option Form
next_form has before true also factor e = remainder_of before (divisor_of e)
next_form has before false also factor e = kept (product_of has before also factor)

-- a step of a product, behind what stands before it
abbrev pub step_failures : model.Scope → Pos → Bool → Option Form → Bool → Expr → List Refusal
step_failures scope place has before rem e = label_failures scope e ++ (needs_sort scope wholes e ++ next_failures place has before rem (has_field scope e) (form_in_range scope e) e)

abbrev pub step_form : model.Scope → Bool → Option Form → Bool → Expr → Option Form
step_form scope has before rem e = next_form has before rem (has_field scope e) (form_in_range scope e) e

-- a form was made, or a number was out of range
abbrev pub IsMade : Result Form FormStop → Type 0
IsMade (Ok f) = Unit {0}
IsMade (Err (Range n)) = Unit {0}
IsMade (Err Memory) = ⊥
