-- What is known of the name of a field.
use Rattle.std.proofs.Common.{◌≡◌, ℕ, true, cond, List, [], map, Option, Some, None, Bor, sym, ap, ap₂, ◌∙◌, not}
use Rattle.std.specs.Option.{option_map, option_and_then}
use Rattle.fast_fault.specs.declared.code.Code.TheVariants.{UnknownField}
use Rattle.fast_fault.specs.declared.place.Pos.{Pos}
use Rattle.model_tree.specs.Signature.{wholes}
use Rattle.model_label.specs.Fields.{same_sort}
use Rattle.model_form.specs.Form.{Form}
use Rattle.model_grammar.specs.Syntax.{field}
use Rattle.fast_tree.specs.declared.signature.Sort.{Sort}
use Rattle.fast_tree.specs.Signatures.{plain_sort}
use Rattle.fast_syntax.specs.declared.FieldItem.{FieldItem}
use Rattle.fast_syntax.specs.View.{plain_field}
use Rattle.model_checks.specs.Failures.{fails_if}
use Rattle.model_checks.specs.Sorts.{field_sort}
use Rattle.model_checks.specs.Forms.{form_numbered, form_of_field, is_field}
use Rattle.model_checks.specs.Labels.{unknown_field}
use Rattle.program_check.specs.declared.checker.Checker.{Checker}
use Rattle.program_check.specs.declared.labels.Scope.{Scope}
use Rattle.program_check.specs.Known.{plain_scope, IsField, IsKnown}
use Rattle.program_check.specs.Notes.{Noted}
use Rattle.program_check.proofs.Noting.{same}

scope_is : (scope : Scope) (fields : Bor (List FieldItem)) → scope.fields ≡ Some fields → plain_scope scope ≡ Some (map plain_field fields.now)
scope_is scope fields e = ap (option_map (λ (fs : Bor (List FieldItem)). map plain_field fs.now)) e

pub known_field : (scope : Scope) (fields : Bor (List FieldItem)) (name : List ℕ) (place : Pos) (sort : Option Sort) (number : ℕ) (form : Option Form)
    → scope.fields ≡ Some fields → IsField (map plain_field fields.now) name sort number
    → form ≡ option_and_then (λ s. cond (same_sort s wholes) (form_numbered number) None) (option_map plain_sort sort)
    → IsKnown scope (field place name) (record { sort = sort; has_field = true; form = form })
known_field scope fields name place sort number form scope_some is form_of =
    let fs = map plain_field fields.now in
    let known : plain_scope scope ≡ Some fs = scope_is scope fields scope_some in
    record {
      sort = is.sort ∙ ap (λ s. field_sort s name) (sym known);
      has = sym (ap (λ s. is_field s name) known ∙ is.there);
      form = form_of ∙ ap₂ (λ n o. option_and_then (λ s. cond (same_sort s wholes) (form_numbered n) None) o) is.number is.sort ∙ ap (λ s. form_of_field s name) (sym known);
    }

-- nothing fails at the name of a field
pub field_there : (scope : Scope) (fields : Bor (List FieldItem)) (name : List ℕ) (place : Pos) (sort : Option Sort) (number : ℕ) (a b : Checker) → scope.fields ≡ Some fields → IsField (map plain_field fields.now) name sort number → Noted a b [] → Noted a b (unknown_field (plain_scope scope) name place)
field_there scope fields name place sort number a b scope_some is none =
    same (sym (ap (λ s. unknown_field s name place) (scope_is scope fields scope_some) ∙ ap (λ b. fails_if (not b) UnknownField place) is.there)) none
