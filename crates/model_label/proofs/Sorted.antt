-- Fields have values of their sorts.
use Rattle.std.proofs.Common.{◌≡◌, ℕ, Bool, true, false, cond, List, [], ◌∷◌, Option, Some, map, refl, ◌∙◌}
use Rattle.model_tree.specs.Label.{Field}
use Rattle.model_tree.specs.Signature.{Sort, wholes, truths, texts, PlainField, sort_of}
use Rattle.model_label.specs.Fields.{same_name, same_sort, sort_at, is_field_of, has_field, value_at}

pub one_sort : (s t : Sort) → same_sort s t ≡ true → s ≡ t
one_sort wholes wholes e = refl
one_sort wholes truths e = cc
one_sort wholes texts e = cc
one_sort truths wholes e = cc
one_sort truths truths e = refl
one_sort truths texts e = cc
one_sort texts wholes e = cc
one_sort texts truths e = cc
one_sort texts texts e = refl

at_first : (b : Bool) (sort : Sort) (f : Sort) (value : Field) (rest : Option Sort) (later : Field) → sort_of value ≡ f → (is_field_of sort rest ≡ true → sort_of later ≡ sort) → is_field_of sort (cond b (Some f) rest) ≡ true → sort_of (cond b value later) ≡ sort
at_first true sort f value rest later is below e = is ∙ one_sort f sort e
at_first false sort f value rest later is below e = below e

pub field_sort : (fields : List PlainField) (values : List Field) (sort : Sort) (name : List ℕ) → map sort_of values ≡ map (λ f. f.sort) fields → has_field fields sort name ≡ true → sort_of (value_at fields values name) ≡ sort
field_sort [] values sort name sorts e = cc
field_sort (f ∷ fs) [] sort name sorts e = cc
field_sort (f ∷ fs) (value ∷ values) sort name sorts e =
    let first : sort_of value ≡ f.sort = cc in
    let later : map sort_of values ≡ map (λ g. g.sort) fs = cc in
    at_first (same_name f.name name) sort f.sort value (sort_at fs name) (value_at fs values name) first (field_sort fs values sort name later) e
