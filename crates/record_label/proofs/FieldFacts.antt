-- The value of a field by its number within its sort.
use Rattle.std.proofs.Common.{◌≡◌, ◌<◌, ◌⊎◌, inl, inr, ℕ, suc, Bool, true, false, cond, List, [], ◌∷◌, map, get_or, Option, Some, None, refl, sym, ◌∙◌, subst, arith}
use Rattle.model_tree.specs.Label.{Field, whole, truth, text}
use Rattle.model_tree.specs.Signature.{Sort, wholes, truths, texts, PlainField, sort_of}
use Rattle.model_label.specs.Fields.{same_name, same_sort, sort_at, is_field_of, has_field, number_at, value_at}
use Rattle.model_guard.proofs.Values.{found_in}
use Rattle.record_label.specs.Rows.{truths_in, texts_in, count_of}

truth_step : (b : Bool) (v : Field) (vs : List Field) (n : ℕ) (rest : Option Sort) (later : Field) → (is_field_of truths rest ≡ true → later ≡ truth (get_or (truths_in vs) n false)) → is_field_of truths (cond b (Some (sort_of v)) rest) ≡ true → cond b v later ≡ truth (get_or (truths_in (v ∷ vs)) (cond b 0 (cond (same_sort (sort_of v) truths) (suc n) n)) false)
truth_step true (whole m) vs n rest later below e = cc
truth_step true (truth c) vs n rest later below e = refl
truth_step true (text t) vs n rest later below e = cc
truth_step false (whole m) vs n rest later below e = below e
truth_step false (truth c) vs n rest later below e = below e
truth_step false (text t) vs n rest later below e = below e

-- a field that is a truth value
pub truth_field : (fields : List PlainField) (values : List Field) (name : List ℕ) → map sort_of values ≡ map (λ f. f.sort) fields → has_field fields truths name ≡ true → value_at fields values name ≡ truth (get_or (truths_in values) (number_at fields truths name) false)
truth_field [] values name sorts e = cc
truth_field (f ∷ fs) [] name sorts e = cc
truth_field (f ∷ fs) (v ∷ vs) name sorts e =
    let first : f.sort ≡ sort_of v = cc in
    let later : map sort_of vs ≡ map (λ g. g.sort) fs = cc in
    subst (λ s. cond (same_name f.name name) v (value_at fs vs name) ≡ truth (get_or (truths_in (v ∷ vs)) (cond (same_name f.name name) 0 (cond (same_sort s truths) (suc (number_at fs truths name)) (number_at fs truths name))) false)) (sym first)
    (truth_step (same_name f.name name) v vs (number_at fs truths name) (sort_at fs name) (value_at fs vs name) (truth_field fs vs name later)
    (subst (λ s. is_field_of truths (cond (same_name f.name name) (Some s) (sort_at fs name)) ≡ true) first e))

text_step : (b : Bool) (v : Field) (vs : List Field) (n : ℕ) (rest : Option Sort) (later : Field) → (is_field_of texts rest ≡ true → later ≡ text (get_or (texts_in vs) n [])) → is_field_of texts (cond b (Some (sort_of v)) rest) ≡ true → cond b v later ≡ text (get_or (texts_in (v ∷ vs)) (cond b 0 (cond (same_sort (sort_of v) texts) (suc n) n)) [])
text_step true (whole m) vs n rest later below e = cc
text_step true (truth c) vs n rest later below e = cc
text_step true (text t) vs n rest later below e = refl
text_step false (whole m) vs n rest later below e = below e
text_step false (truth c) vs n rest later below e = below e
text_step false (text t) vs n rest later below e = below e

-- a field that is a text
pub text_field : (fields : List PlainField) (values : List Field) (name : List ℕ) → map sort_of values ≡ map (λ f. f.sort) fields → has_field fields texts name ≡ true → value_at fields values name ≡ text (get_or (texts_in values) (number_at fields texts name) [])
text_field [] values name sorts e = cc
text_field (f ∷ fs) [] name sorts e = cc
text_field (f ∷ fs) (v ∷ vs) name sorts e =
    let first : f.sort ≡ sort_of v = cc in
    let later : map sort_of vs ≡ map (λ g. g.sort) fs = cc in
    subst (λ s. cond (same_name f.name name) v (value_at fs vs name) ≡ text (get_or (texts_in (v ∷ vs)) (cond (same_name f.name name) 0 (cond (same_sort s texts) (suc (number_at fs texts name)) (number_at fs texts name))) [])) (sym first)
    (text_step (same_name f.name name) v vs (number_at fs texts name) (sort_at fs name) (value_at fs vs name) (text_field fs vs name later)
    (subst (λ s. is_field_of texts (cond (same_name f.name name) (Some s) (sort_at fs name)) ≡ true) first e))

low_step : (b t rest : Bool) (n c : ℕ) → (rest ≡ true → n < c) → cond b t rest ≡ true → cond b 0 (cond t (suc n) n) < cond t (suc c) c
low_step true true rest n c below e = omega arith
low_step true false rest n c below e = cc
low_step false true rest n c below e = let h : n < c = below e in omega arith
low_step false false rest n c below e = below e

-- the number of a field of a sort is less than there are
pub number_low : (fields : List PlainField) (sort : Sort) (name : List ℕ) → has_field fields sort name ≡ true → number_at fields sort name < count_of sort (map (λ f. f.sort) fields)
number_low [] sort name e = cc
number_low (f ∷ fs) sort name e =
    low_step (same_name f.name name) (same_sort f.sort sort) (has_field fs sort name) (number_at fs sort name) (count_of sort (map (λ g. g.sort) fs)) (number_low fs sort name) (sym (found_in sort f.sort (same_name f.name name) (sort_at fs name)) ∙ e)

one_of_two : (o : Option Sort) → is_field_of truths o ≡ true → is_field_of texts o ≡ false
one_of_two None e = cc
one_of_two (Some wholes) e = cc
one_of_two (Some truths) e = refl
one_of_two (Some texts) e = cc

-- a field that is a truth value is no text
pub truth_no_text : (fields : List PlainField) (name : List ℕ) → has_field fields truths name ≡ true → has_field fields texts name ≡ false
truth_no_text fields name e = one_of_two (sort_at fields name) e

no_whole_of : (o : Option Sort) → (is_field_of truths o ≡ true) ⊎ (is_field_of texts o ≡ true) → is_field_of wholes o ≡ false
no_whole_of None h = refl
no_whole_of (Some wholes) (inl e) = cc
no_whole_of (Some wholes) (inr e) = cc
no_whole_of (Some truths) h = refl
no_whole_of (Some texts) h = refl

-- a field that is a truth value or a text is no whole number
pub truth_no_whole : (fields : List PlainField) (name : List ℕ) → has_field fields truths name ≡ true → has_field fields wholes name ≡ false
truth_no_whole fields name e = no_whole_of (sort_at fields name) (inl e)

pub text_no_whole : (fields : List PlainField) (name : List ℕ) → has_field fields texts name ≡ true → has_field fields wholes name ≡ false
text_no_whole fields name e = no_whole_of (sort_at fields name) (inr e)
