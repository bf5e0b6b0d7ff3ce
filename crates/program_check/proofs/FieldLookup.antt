-- A field is looked for by its name, and numbered among the whole numbers.
use Rattle.std.proofs.Common.{◌≡◌, ℕ, suc, ◌+◌, ◌<◌, ◌≤◌, Bool, true, false, cond, List, map, length, drop, get_or, Option, Some, None, refl, sym, ap, ◌∙◌, arith}
use Rattle.std.specs.Prelude.{is_some}
use Rattle.std.specs.Option.{option_map, option_map_or, option_and_then}
use Rattle.std.proofs.lemmas.List.{drop_all}
use Rattle.model_tree.specs.Signature as model
use Rattle.model_tree.specs.Signature.{wholes, texts}
use Rattle.model_label.specs.Fields.{same_sort, number_at}
use Rattle.model_names.specs.Declared.{same_text}
use Rattle.model_names.specs.Sorts.{sort_named, own_sort}
use Rattle.model_checks.specs.Sorts.{find_field, plain_fields}
use Rattle.fast_tree.specs.declared.signature.Sort.{Sort}
use Rattle.fast_tree.specs.Signatures.{plain_sort}
use Rattle.fast_syntax.specs.declared.FieldItem.{FieldItem}
use Rattle.fast_syntax.specs.View.{plain_field}
use Rattle.fast_syntax.proofs.Appending.{drop_at}
use Rattle.program_check.specs.Known.{is_whole, IsField}

abbrev number_in : List FieldItem → List ℕ → ℕ
number_in fields name = number_at (plain_fields (map plain_field fields)) wholes name

-- so many whole numbers stand before this place, and no field there has the name
pub record Left (fields : List FieldItem) (name : List ℕ) (i n : ℕ) : Type 0 where
  pub found : find_field (map plain_field fields) name ≡ find_field (map plain_field (drop i fields)) name
  pub number : number_in fields name ≡ n + number_in (drop i fields) name
  pub few : n ≤ i

pub at_start : (fields : List FieldItem) (name : List ℕ) → Left fields name 0 0
at_start fields name = record { found = refl; number = omega arith; few = omega arith }

-- a field of an unknown sort is none
whole_is : (o : Option model.Sort) → is_whole o ≡ same_sort (option_map_or (λ sort. sort) o texts) wholes
whole_is None = refl
whole_is (Some sort) = refl

pub goes_on : (fields : List FieldItem) (name : List ℕ) (i n m : ℕ) (x : FieldItem) (sort : Option Sort) (whole : Bool) → i < length fields → x ≡ get_or fields i x → option_map plain_sort sort ≡ sort_named x.sort.text → same_text x.name.text name ≡ false
    → whole ≡ is_whole (option_map plain_sort sort) → m ≡ cond whole (n + 1) n → Left fields name i n → Left fields name (i + 1) m
goes_on fields name i n m x sort whole low is sorted apart named counted left =
    let rest = map plain_field (drop (i + 1) fields) in
    let later = number_in (drop (i + 1) fields) name in
    let at = drop_at fields i x low is in
    let of : whole ≡ same_sort (own_sort (plain_field x)) wholes = named ∙ ap is_whole sorted ∙ whole_is (sort_named x.sort.text) in
    let here : number_in (drop i fields) name ≡ cond whole (suc later) later = ap (λ xs. number_in xs name) at ∙ (λ j. cond (apart j) 0 (cond (sym of j) (suc later) later)) in
    record {
      found = left.found ∙ ap (λ xs. find_field (map plain_field xs) name) at ∙ ap (λ b. cond b (Some (plain_field x)) (find_field rest name)) apart;
      number = left.number ∙ ap (λ k. n + k) here ∙ sum whole later ∙ ap (λ k. k + later) (sym counted);
      few = low_in whole counted;
    }
  where
    sum : (b : Bool) (k : ℕ) → n + cond b (suc k) k ≡ cond b (n + 1) n + k
    sum true k = omega arith
    sum false k = refl

    low_in : (b : Bool) → m ≡ cond b (n + 1) n → m ≤ i + 1
    low_in true e = omega (arith, e, left.few)
    low_in false e = omega (arith, e, left.few)

pub is_found : (fields : List FieldItem) (name : List ℕ) (i n : ℕ) (x : FieldItem) (sort : Option Sort) → i < length fields → x ≡ get_or fields i x → option_map plain_sort sort ≡ sort_named x.sort.text → same_text x.name.text name ≡ true
    → Left fields name i n → IsField (map plain_field fields) name sort n
is_found fields name i n x sort low is sorted here left =
    let rest = map plain_field (drop (i + 1) fields) in
    let later = number_in (drop (i + 1) fields) name in
    let at = drop_at fields i x low is in
    let found : find_field (map plain_field fields) name ≡ Some (plain_field x) = left.found ∙ ap (λ xs. find_field (map plain_field xs) name) at ∙ ap (λ b. cond b (Some (plain_field x)) (find_field rest name)) here in
    let none : number_in (drop i fields) name ≡ 0 = ap (λ xs. number_in xs name) at ∙ ap (λ b. cond b 0 (cond (same_sort (own_sort (plain_field x)) wholes) (suc later) later)) here in
    record {
      there = ap is_some found;
      sort = sorted ∙ ap (option_and_then (λ f. sort_named f.sort.text)) (sym found);
      number = sym (left.number ∙ ap (λ m. n + m) none ∙ (omega arith));
    }

pub is_nowhere : (fields : List FieldItem) (name : List ℕ) (i n : ℕ) → length fields ≤ i → Left fields name i n → find_field (map plain_field fields) name ≡ None
is_nowhere fields name i n end left = left.found ∙ ap (λ xs. find_field (map plain_field xs) name) (drop_all i fields end)
