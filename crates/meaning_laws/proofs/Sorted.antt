-- Labels of well-formed terms have the sorts of the fields.
use Rattle.std.proofs.Common.{◌≡◌, ℕ, suc, Bool, true, false, cond, List, [], ◌∷◌, map, length, Option, Some, is_some, refl, sym, ap, ◌∙◌, arith, ◌++◌}
use Rattle.std.proofs.lemmas.Bool.{and_parts}
use Rattle.std.specs.Prelude.{◌==◌}
use Rattle.std.proofs.lemmas.Bool.Decides.{nat_tests}
use Rattle.std.specs.List.{list_all}
use Rattle.std.specs.Option.{option_map_or, option_and_then}
use Rattle.model_tree.specs.Label.{Field}
use Rattle.model_tree.specs.Signature.{Sort, wholes, truths, texts, PlainField, have_sorts}
use Rattle.model_tree.proofs.Sorts.{own_sorts, have_these_sorts}
use Rattle.model_tree.specs.Signature as model
use Rattle.model_program.specs.Syntax.{FieldItem}
use Rattle.model_grammar.specs.declared.Chain.TheVariants.{Disjunction, Conjunction, Sum, Product}
use Rattle.model_grammar.specs.Syntax.{Expr, field, number, text, truth, negation, compare, minus, chain}
use Rattle.model_label.specs.Fields.{same_sort, value_at}
use Rattle.model_label.specs.Meaning.{value_of}
use Rattle.model_label.proofs.Sorted.{one_sort}
use Rattle.model_names.specs.Declared.{same_text}
use Rattle.model_checks.specs.Failures.{is_empty}
use Rattle.model_names.specs.Sorts.{sort_named, own_sort}
use Rattle.model_checks.specs.Sorts.{find_field, sort_of, is_other_sort, differ_in_sort}
use Rattle.model_checks.specs.Labels.{label_failures, needs_sort_of, labels_failures}
use Rattle.model_checks.proofs.Soundness.{empty_first, empty_second, passed, not_false, is_there}
use Rattle.model_checks.proofs.SoundParts.{known_sort}

-- the fields as the type's signature has them
abbrev pub plain : List FieldItem → List PlainField
plain fields = map (λ f. record { name = f.name.text; sort = own_sort f }) fields

-- the sort of a known name is that of the field
same_named : (f : FieldItem) (s : Sort) → sort_named f.sort.text ≡ Some s → own_sort f ≡ s
same_named f s e = ap (λ o. option_map_or (λ sort. sort) o texts) e

-- a field has a value of its sort
field_has : (fields : List FieldItem) (values : List Field) (name : List ℕ) (s : Sort) → map model.sort_of values ≡ map (λ f. f.sort) (plain fields) → option_and_then (λ f. sort_named f.sort.text) (find_field fields name) ≡ Some s
    → model.sort_of (value_at (plain fields) values name) ≡ s
field_has [] values name s sorts e = absurd (cc)
field_has (f ∷ fields) [] name s sorts e = absurd (cc)
field_has (f ∷ fields) (value ∷ values) name s sorts e =
    by (same_text f.name.text name) e (λ found. field_has fields values name s (cc) found)
  where
    by : (b : Bool) → option_and_then (λ f. sort_named f.sort.text) (cond b (Some f) (find_field fields name)) ≡ Some s
        → (option_and_then (λ f. sort_named f.sort.text) (find_field fields name) ≡ Some s → model.sort_of (value_at (plain fields) values name) ≡ s)
        → model.sort_of (cond b value (value_at (plain fields) values name)) ≡ s
    by true own later = let first : model.sort_of value ≡ own_sort f = cc in first ∙ same_named f s own
    by false own later = later own

-- an expression of a sort has values of that sort
value_has : (fields : List FieldItem) (values : List Field) (e : Expr) (s : Sort) → map model.sort_of values ≡ map (λ f. f.sort) (plain fields) → sort_of (Some fields) e ≡ Some s
    → model.sort_of (value_of (plain fields) values e) ≡ s
value_has fields values (field place name) s sorts is = field_has fields values name s sorts is
value_has fields values (number place n) s sorts is = cc
value_has fields values (text place t) s sorts is = cc
value_has fields values (truth place b) s sorts is = cc
value_has fields values (negation place e) s sorts is = cc
value_has fields values (compare place rel a b) s sorts is = cc
value_has fields values (minus place e) s sorts is = cc
value_has fields values (chain Disjunction place parts) s sorts is = cc
value_has fields values (chain Conjunction place parts) s sorts is = cc
value_has fields values (chain Sum place parts) s sorts is = cc
value_has fields values (chain Product place parts) s sorts is = cc

pub none_is_some : (n : ℕ) → (0 == suc n) ≡ true → ⊥
none_is_some n e = grind (arith, nat_tests)

pub some_is_none : (n : ℕ) → (suc n == 0) ≡ true → ⊥
some_is_none n e = grind (arith, nat_tests)

pub suc_equal : (m n : ℕ) → (suc m == suc n) ≡ true → (m == n) ≡ true
suc_equal m n e = grind (arith, nat_tests)

same_sort_of : (s : Sort) (o : Option Sort) (found : Sort) → o ≡ Some found → is_other_sort s o ≡ false → found ≡ s
same_sort_of s o found e other = one_sort found s (not_false (same_sort found s) (ap (is_other_sort s) (sym e) ∙ other))

-- as many labels as fields, of which none fails and each is of its field's sort, have values of the sorts
labels_own : (fields into : List FieldItem) (labels : List Expr) (values : List Field) → list_all (λ f. is_some (sort_named f.sort.text)) fields ≡ true → list_all (λ f. is_some (sort_named f.sort.text)) into ≡ true
    → map model.sort_of values ≡ map (λ f. f.sort) (plain fields) → (length into == length labels) ≡ true → is_empty (labels_failures (Some fields) into labels) ≡ true
    → map model.sort_of (map (value_of (plain fields) values) labels) ≡ map (λ f. f.sort) (plain into)
labels_own fields [] [] values known named sorts many fine = refl
labels_own fields [] (e ∷ labels) values known named sorts many fine = absurd (none_is_some (length labels) many)
labels_own fields (f ∷ into) [] values known named sorts many fine = absurd (some_is_none (length into) many)
labels_own fields (f ∷ into) (e ∷ labels) values known named sorts many fine =
    let two = and_parts (is_some (sort_named f.sort.text)) (list_all (λ g. is_some (sort_named g.sort.text)) into) named in
    let own = is_there (sort_named f.sort.text) two.0 in
    let rest = needs_sort_of (Some fields) f e ++ labels_failures (Some fields) into labels in
    let failing = empty_first (label_failures (Some fields) e) rest fine in
    let behind = empty_second (label_failures (Some fields) e) rest fine in
    let has = is_there (sort_of (Some fields) e) (known_sort fields e known failing) in
    let needed = passed (differ_in_sort (sort_named f.sort.text) (sort_of (Some fields) e)) _ _ (empty_first (needs_sort_of (Some fields) f e) (labels_failures (Some fields) into labels) behind) in
    let same = same_sort_of own.0 (sort_of (Some fields) e) has.0 has.1 (ap (λ o. differ_in_sort o (sort_of (Some fields) e)) (sym own.1) ∙ needed) in
    let value = value_has fields values e own.0 sorts (has.1 ∙ ap (λ s. Some s) same) in
    let first = value ∙ sym (same_named f own.0 own.1) in
    let later = labels_own fields into labels values known two.1 sorts (suc_equal (length into) (length labels) many) (empty_second (needs_sort_of (Some fields) f e) (labels_failures (Some fields) into labels) behind) in
    λ i. first i ∷ later i

pub labels_have : (fields into : List FieldItem) (labels : List Expr) (values : List Field) → list_all (λ f. is_some (sort_named f.sort.text)) fields ≡ true → list_all (λ f. is_some (sort_named f.sort.text)) into ≡ true
    → have_sorts (map (λ f. f.sort) (plain fields)) values ≡ true → (length into == length labels) ≡ true → is_empty (labels_failures (Some fields) into labels) ≡ true
    → have_sorts (map (λ f. f.sort) (plain into)) (map (value_of (plain fields) values) labels) ≡ true
labels_have fields into labels values known named has many fine =
    have_these_sorts (map (λ f. f.sort) (plain into)) (map (value_of (plain fields) values) labels)
    (labels_own fields into labels values known named (own_sorts (map (λ f. f.sort) (plain fields)) values has) many fine)
