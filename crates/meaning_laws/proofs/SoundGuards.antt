-- What the check of a program finds sound is a guard, a whole number or a text, and its forms are in range.
use Rattle.std.proofs.Common.{◌≡◌, ℕ, zero, suc, ◌<◌, ◌≤◌, ◌&&◌, ◌||◌, Bool, true, false, cond, List, [], ◌∷◌, ◌++◌, length, Option, Some, None, Contains, refl, sym, ap, ap₂, ◌∙◌, subst, arith}
use Rattle.std.proofs.lemmas.Bool.{or_right, or_parts}
use Rattle.std.proofs.Math.IntN.{ℤ, pos, negsuc, ◌*ℤ◌}
use Rattle.std.proofs.lemmas.Int.{ints}
use Rattle.std.proofs.lemmas.Bool.Decides.{nat_tests}
use Rattle.std.proofs.lemmas.List.{length-map}
use Rattle.std.specs.Prelude.{is_some, nat_lt, nat_le}
use Rattle.std.specs.List.{list_all}
use Rattle.std.specs.Option.{option_map, option_map_or, option_and_then}
use Rattle.std.specs.Ordering.{int_eq}
use Rattle.fast_fault.specs.declared.code.Code.TheVariants.{WrongSort}
use Rattle.fast_fault.specs.declared.place.Pos.{Pos}
use Rattle.fast_fault.specs.declared.refusal.Refusal.{Refusal}
use Rattle.math_int.proofs.Floors.{euclid_range}
use Rattle.model_tree.specs.Limits.{greatest_divisor, most_fields}
use Rattle.model_tree.specs.Range.{is_label_number}
use Rattle.model_tree.specs.Signature.{Sort, wholes, truths, texts, PlainField}
use Rattle.model_program.specs.Syntax.{FieldItem}
use Rattle.model_grammar.specs.declared.Chain.TheVariants.{Disjunction, Conjunction, Sum, Product}
use Rattle.model_grammar.specs.declared.Rel.{Rel}
use Rattle.model_grammar.specs.declared.Rel.TheVariants.{Equal, NotEqual, Less, AtMost, Greater, AtLeast}
use Rattle.model_grammar.specs.Syntax.{Expr, field, number, text, truth, negation, compare, minus, chain, Parts, no_parts, part}
use Rattle.model_form.specs.Form.{Form, form, no_remainders, remainder, constant_of, modulo}
use Rattle.model_form.specs.Sums.{number_form, field_form, sum_form, product_form, remainder_form}
use Rattle.model_form.proofs.Values.{int_eq-out}
use Rattle.model_label.specs.Fields.{same_sort, sort_at, is_field_of, has_field, number_at}
use Rattle.model_label.specs.Tests.{is_equality, is_text}
use Rattle.model_names.specs.Declared.{same_text}
use Rattle.model_guard.specs.Forms.{is_constant, times, is_divisor, divisor_of, step, form_of, added, multiplied, steps, forms_in, forms_in_all, is_whole, are_wholes, are_factors, has_whole, have_whole, HasOutside}
use Rattle.model_guard.specs.Guards.{is_guard, are_guards}
use Rattle.model_guard.proofs.Values.{number_few}
use Rattle.model_guard.proofs.Constants.{step_constant, no_field_constant}
use Rattle.model_checks.specs.Failures.{fails_if, is_empty}
use Rattle.model_names.specs.Sorts.{sort_named}
use Rattle.model_checks.specs.Sorts.{find_field, field_sort, plain_fields, sort_of, place_of, is_other_sort, differ_in_sort, needs_sort}
use Rattle.model_checks.specs.Forms as checks
use Rattle.model_checks.specs.Forms.{is_in_range, kept, is_out_of_range, product_of, divisor_in, form_numbered}
use Rattle.model_checks.specs.Labels.{label_failures, operands_failures, steps_failures, compared, multiplied as product_failures, divided}
use Rattle.model_checks.specs.Sound.{IsSoundLabel}
use Rattle.model_checks.proofs.Soundness.{empty_first, empty_second, empty_both, passed, not_false, needed, is_there}
use Rattle.model_checks.proofs.SoundParts.{known_sort, sound_label}
use Rattle.model_checks.proofs.InRange.{constant_in, is_outside}

-- ---- truth values

one_false : (a b : Bool) → (a && b) ≡ false → b ≡ true → a ≡ false
one_false true true e f = absurd (cc)
one_false true false e f = absurd (cc)
one_false false b e f = refl

-- ---- forms in range

abbrev AreInRange : List Form → Type 0
AreInRange [] = Unit {0}
AreInRange (f ∷ fs) = (is_in_range f ≡ true) × AreInRange fs

join_ranges : (fs gs : List Form) → AreInRange fs → AreInRange gs → AreInRange (fs ++ gs)
join_ranges [] gs f g = g
join_ranges (x ∷ fs) gs f g = (f.0, join_ranges fs gs f.1 g)

none_outside : (fs : List Form) → AreInRange fs → (n : ℤ) → HasOutside fs n → ⊥
none_outside fs within n (f, there, out) = let no : true ≡ false = sym (at fs within f there) ∙ is_outside f n out in absurd (cc)
  where
    at : (fs : List Form) → AreInRange fs → (f : Form) → Contains fs f → is_in_range f ≡ true
    at [] within f (k, low, is) = absurd (omega (arith, low))
    at (g ∷ fs) within f (zero, low, is) = ap is_in_range (sym is) ∙ within.0
    at (g ∷ fs) within f (suc k, low, is) = at fs within.1 f (k, omega (arith, low), is)

kept_in : (f : Form) → is_in_range f ≡ true → kept (Some f) ≡ Some f
kept_in f e = ap (λ b. cond b (Some f) None) e

number_in : (n : ℤ) → is_label_number n ≡ true → is_in_range (number_form n) ≡ true
number_in n e = ap (λ b. b && true) e

modulo_in : (z : ℤ) (k : ℕ) → 0 < k → k ≤ greatest_divisor → is_label_number (modulo z k) ≡ true
modulo_in z k low few = let range = euclid_range z (pos k) (omega (arith, ints)) in constant_in (modulo z k) (omega (arith, ints, range.0, range.1))

remainder_in : (f : Form) (k : ℕ) → 0 < k → k ≤ greatest_divisor → is_in_range (remainder_form f k) ≡ true
remainder_in (form c [] no_remainders) k low few = number_in (modulo c k) (modulo_in c k low few)
remainder_in (form c [] (remainder a f m rs)) k low few = refl
remainder_in (form c (t ∷ ts) rs) k low few = refl

-- ---- products

turned : (f g : Form) → is_constant f ≡ true → is_constant g ≡ true → product_form (constant_of f) g ≡ product_form (constant_of g) f
turned (form c [] (remainder a f k rs)) g h k' = absurd (cc)
turned (form c (t ∷ ts) rs) g h k' = absurd (cc)
turned (form c [] no_remainders) (form d [] (remainder a f k rs)) h k' = absurd (cc)
turned (form c [] no_remainders) (form d (t ∷ ts) rs) h k' = absurd (cc)
turned (form c [] no_remainders) (form d [] no_remainders) h k' = by (int_eq c (pos 0)) refl (int_eq d (pos 0)) refl
  where
    nothing : (x y : ℤ) → x ≡ pos 0 → pos 0 ≡ y *ℤ x
    nothing x y e = zero_there y ∙ ap (λ z. y *ℤ z) (sym e)
      where
        zero_there : (y : ℤ) → pos 0 ≡ y *ℤ pos 0
        zero_there y = omega (arith, ints)

    turn : (x y : ℤ) → x *ℤ y ≡ y *ℤ x
    turn x y = omega (arith, ints)

    by : (a : Bool) → int_eq c (pos 0) ≡ a → (b : Bool) → int_eq d (pos 0) ≡ b → cond a (number_form (pos 0)) (form (c *ℤ d) [] no_remainders) ≡ cond b (number_form (pos 0)) (form (d *ℤ c) [] no_remainders)
    by true e true f = refl
    by true e false f = ap number_form (nothing c d (int_eq-out c (pos 0) e))
    by false e true f = ap number_form (sym (nothing d c (int_eq-out d (pos 0) f)))
    by false e false f = ap number_form (turn c d)

-- a product by a side without fields
product_is : (has : Bool) (f : Form) (has_too : Bool) (g : Form) → (has ≡ false → is_constant f ≡ true) → (has_too ≡ false → is_constant g ≡ true) → (has && has_too) ≡ false
    → product_of has (Some f) has_too (Some g) ≡ Some (times f g)
product_is has f false g first second apart = ap (λ b. Some (cond b (product_form (constant_of g) f) (product_form (constant_of f) g))) (sym (second refl))
product_is true f true g first second apart = absurd (cc)
product_is false f true g first second apart = by (is_constant g) refl
  where
    by : (b : Bool) → is_constant g ≡ b → Some (product_form (constant_of f) g) ≡ Some (cond b (product_form (constant_of g) f) (product_form (constant_of f) g))
    by true is = ap Some (turned f g (first refl) is)
    by false is = refl

factor_constant : (has : Bool) (f : Form) (has_too : Bool) (g : Form) → (has ≡ false → is_constant f ≡ true) → (has_too ≡ false → is_constant g ≡ true) → (has && has_too) ≡ false → (is_constant f || is_constant g) ≡ true
factor_constant has f false g first second apart = or_right (is_constant f) (is_constant g) (second refl)
factor_constant true f true g first second apart = absurd (cc)
factor_constant false f true g first second apart = ap (λ b. b || is_constant g) (first refl)

record Divides (e : Expr) : Type 0 where
  pub is : is_divisor e ≡ true
  pub by : checks.divisor_of e ≡ Some (divisor_of e)
  pub low : 0 < divisor_of e
  pub few : divisor_of e ≤ greatest_divisor

divisor_is : (e : Expr) → is_some (checks.divisor_of e) ≡ true → Divides e
divisor_is (field place name) e = absurd (cc)
divisor_is (number place (pos n)) e = inside (nat_lt 0 n && nat_le n greatest_divisor) refl e
  where
    bounds : (nat_lt 0 n && nat_le n greatest_divisor) ≡ true → (0 < n) × (n ≤ greatest_divisor)
    bounds e = (grind (arith, nat_tests), grind (arith, nat_tests))

    inside : (b : Bool) → (nat_lt 0 n && nat_le n greatest_divisor) ≡ b → is_some (cond b (Some n) None) ≡ true → Divides (number place (pos n))
    inside true is e = record { is = is; by = ap (λ b. cond b (Some n) None) is ∙ ap (λ b. Some (cond b n 1)) (sym is); low = subst (λ m. 0 < m) (ap (λ b. cond b n 1) (sym is)) (bounds is).0; few = subst (λ m. m ≤ greatest_divisor) (ap (λ b. cond b n 1) (sym is)) (bounds is).1 }
    inside false is e = absurd (cc)
divisor_is (number place (negsuc n)) e = absurd (cc)
divisor_is (text place t) e = absurd (cc)
divisor_is (truth place b) e = absurd (cc)
divisor_is (negation place a) e = absurd (cc)
divisor_is (compare place rel a b) e = absurd (cc)
divisor_is (minus place a) e = absurd (cc)
divisor_is (chain kind place parts) e = absurd (cc)

-- ---- fields

sort_is : (fields : List FieldItem) (name : List ℕ) (s : Sort) → field_sort (Some fields) name ≡ Some s → sort_at (plain_fields fields) name ≡ Some s
sort_is [] name s e = absurd (cc)
sort_is (f ∷ fields) name s e = by (same_text f.name.text name) e (sort_is fields name s)
  where
    first : (o : Option Sort) → o ≡ Some s → Some (option_map_or (λ sort. sort) o texts) ≡ Some s
    first None e = absurd (cc)
    first (Some t) e = e

    by : (b : Bool) → option_and_then (λ f. sort_named f.sort.text) (cond b (Some f) (find_field fields name)) ≡ Some s → (field_sort (Some fields) name ≡ Some s → sort_at (plain_fields fields) name ≡ Some s)
        → cond b (Some (option_map_or (λ sort. sort) (sort_named f.sort.text) texts)) (sort_at (plain_fields fields) name) ≡ Some s
    by true e later = first (sort_named f.sort.text) e
    by false e later = later e

same_itself : (s : Sort) → same_sort s s ≡ true
same_itself wholes = refl
same_itself truths = refl
same_itself texts = refl

field_is : (fields : List FieldItem) (name : List ℕ) (s : Sort) → field_sort (Some fields) name ≡ Some s → has_field (plain_fields fields) s name ≡ true
field_is fields name s e = ap (is_field_of s) (sort_is fields name s e) ∙ same_itself s

no_field : (fields : List FieldItem) (name : List ℕ) → is_some (find_field fields name) ≡ false → has_field (plain_fields fields) wholes name ≡ false
no_field [] name e = refl
no_field (f ∷ fields) name e = by (same_text f.name.text name) e (no_field fields name)
  where
    by : (b : Bool) → is_some (cond b (Some f) (find_field fields name)) ≡ false → (is_some (find_field fields name) ≡ false → has_field (plain_fields fields) wholes name ≡ false)
        → is_field_of wholes (cond b (Some (option_map_or (λ sort. sort) (sort_named f.sort.text) texts)) (sort_at (plain_fields fields) name)) ≡ false
    by true e later = absurd (cc)
    by false e later = later e

module _ (fields : List FieldItem) where
  mutual
    -- an expression without the name of a field has no whole number among the fields in it
    no_whole : (e : Expr) → checks.has_field (Some fields) e ≡ false → has_whole (plain_fields fields) e ≡ false
    no_whole (field place name) h = no_field fields name h
    no_whole (number place n) h = refl
    no_whole (text place t) h = refl
    no_whole (truth place b) h = refl
    no_whole (negation place e) h = no_whole e h
    no_whole (compare place rel a b) h =
        let two = or_parts (checks.has_field (Some fields) a) (checks.has_field (Some fields) b) h in
        ap (λ x. x || has_whole (plain_fields fields) b) (no_whole a two.0) ∙ no_whole b two.1
    no_whole (minus place e) h = no_whole e h
    no_whole (chain kind place parts) h = no_wholes parts h

    no_wholes : (parts : Parts) → checks.have_field (Some fields) parts ≡ false → have_whole (plain_fields fields) parts ≡ false
    no_wholes no_parts h = refl
    no_wholes (part marked e parts) h =
        let two = or_parts (checks.has_field (Some fields) e) (checks.have_field (Some fields) parts) h in
        ap (λ x. x || have_whole (plain_fields fields) parts) (no_whole e two.0) ∙ no_wholes parts two.1

  constant_without : (e : Expr) → checks.has_field (Some fields) e ≡ false → is_constant (form_of (plain_fields fields) e) ≡ true
  constant_without e h = no_field_constant (plain_fields fields) e (no_whole e h)

-- ---- what is sound

module _ (fields : List FieldItem) where
  record Whole (e : Expr) : Type 0 where
    pub is : is_whole (plain_fields fields) e ≡ true
    pub form : checks.form_in_range (Some fields) e ≡ Some (form_of (plain_fields fields) e)
    pub own : is_in_range (form_of (plain_fields fields) e) ≡ true
    pub within : AreInRange (forms_in (plain_fields fields) e)

  record Wholes (parts : Parts) : Type 0 where
    pub are : are_wholes (plain_fields fields) parts ≡ true
    pub added : checks.added (Some fields) parts ≡ Some (added (plain_fields fields) parts)
    pub within : AreInRange (forms_in_all (plain_fields fields) parts)

  record Factors (before : Form) (has : Bool) (parts : Parts) : Type 0 where
    pub are : are_factors (plain_fields fields) before parts ≡ true
    pub form : checks.form_behind (Some fields) has (Some before) parts ≡ Some (multiplied (plain_fields fields) before parts)
    pub own : is_in_range (multiplied (plain_fields fields) before parts) ≡ true
    pub within : AreInRange (forms_in_all (plain_fields fields) parts)
    pub steps : AreInRange (steps (plain_fields fields) before parts)

  record Guard (e : Expr) : Type 0 where
    pub is : is_guard (plain_fields fields) e ≡ true
    pub within : AreInRange (forms_in (plain_fields fields) e)

  record Guards (parts : Parts) : Type 0 where
    pub are : are_guards (plain_fields fields) parts ≡ true
    pub within : AreInRange (forms_in_all (plain_fields fields) parts)

  record Text (e : Expr) : Type 0 where
    pub is : is_text (plain_fields fields) e ≡ true
    pub within : AreInRange (forms_in (plain_fields fields) e)

  module _ (known : list_all (λ f. is_some (sort_named f.sort.text)) fields ≡ true) (few : length fields ≤ most_fields) where
    abbrev Sound : Sort → Expr → Type 0
    Sound sort e = IsSoundLabel fields sort e

    -- an operand that is to be of a sort, and what fails behind it
    operand : (sort : Sort) (e : Expr) (rest : List Refusal) → is_empty (label_failures (Some fields) e ++ (needs_sort (Some fields) sort e ++ rest)) ≡ true → Sound sort e × (is_empty rest ≡ true)
    operand sort e rest h =
        let own = empty_first (label_failures (Some fields) e) (needs_sort (Some fields) sort e ++ rest) h in
        let behind = empty_second (label_failures (Some fields) e) (needs_sort (Some fields) sort e ++ rest) h in
        (sound_label fields sort e known (empty_both (label_failures (Some fields) e) (needs_sort (Some fields) sort e) own (empty_first (needs_sort (Some fields) sort e) rest behind)), empty_second (needs_sort (Some fields) sort e) rest behind)

    whole_field : (place : Pos) (name : List ℕ) → field_sort (Some fields) name ≡ Some wholes → Whole (field place name)
    whole_field place name is =
        let has = field_is fields name wholes is in
        let n = number_at (plain_fields fields) wholes name in
        let own : form_of (plain_fields fields) (field place name) ≡ field_form n = ap (λ b. cond b (field_form n) (number_form (pos 0))) has in
        record {
          is = has;
          form = ap (option_and_then (λ sort. cond (same_sort sort wholes) (form_numbered n) None)) is ∙ ap (λ b. cond b (Some (field_form n)) None) (low n (number_few (plain_fields fields) wholes name has)) ∙ ap Some (sym own);
          own = ap is_in_range own;
          within = tt;
        }
      where
        low : (n : ℕ) → n < length (plain_fields fields) → nat_lt n 8 ≡ true
        low n l = let fewer : length (plain_fields fields) ≡ length fields = length-map fields _ in let l8 : n < 8 = omega (arith, l, fewer, few) in grind (arith, nat_tests)

    -- one more step of a product by a factor
    record Step (before : Form) (has : Bool) (e : Expr) : Type 0 where
      pub own : is_in_range (times before (form_of (plain_fields fields) e)) ≡ true
      pub form : kept (product_of has (Some before) (checks.has_field (Some fields) e) (checks.form_in_range (Some fields) e)) ≡ Some (times before (form_of (plain_fields fields) e))
      pub constant : (is_constant before || is_constant (form_of (plain_fields fields) e)) ≡ true

    factor_step : (before : Form) (has : Bool) (place : Pos) (e : Expr) → (has ≡ false → is_constant before ≡ true) → Whole e
        → is_empty (product_failures place has (Some before) (checks.has_field (Some fields) e) (checks.form_in_range (Some fields) e)) ≡ true → Step before has e
    factor_step before has place e bare whole h =
        let has_too = checks.has_field (Some fields) e in
        let g = form_of (plain_fields fields) e in
        let made = product_of has (Some before) has_too (checks.form_in_range (Some fields) e) in
        let apart = passed (has && has_too) _ place (empty_first (fails_if (has && has_too) _ place) (fails_if (is_out_of_range made) _ place) h) in
        let is : made ≡ Some (times before g) = ap (product_of has (Some before) has_too) whole.form ∙ product_is has before has_too g bare (constant_without fields e) apart in
        let inside : is_out_of_range made ≡ false = passed (is_out_of_range made) _ place (empty_second (fails_if (has && has_too) _ place) (fails_if (is_out_of_range made) _ place) h) in
        let own : is_in_range (times before g) ≡ true = not_false (is_in_range (times before g)) (ap is_out_of_range (sym is) ∙ inside) in
        record {
          own = own;
          form = ap kept is ∙ kept_in (times before g) own;
          constant = factor_constant has before has_too g bare (constant_without fields e) apart;
        }

    -- the step keeps that a product without fields is constant
    bare_step : (before : Form) (has divides : Bool) (e : Expr) → (has ≡ false → is_constant before ≡ true) → (has || checks.has_field (Some fields) e) ≡ false → is_constant (step before divides e (form_of (plain_fields fields) e)) ≡ true
    bare_step before has divides e bare none =
        let two = or_parts has (checks.has_field (Some fields) e) none in
        step_constant before divides e (form_of (plain_fields fields) e) (bare two.0) (constant_without fields e two.1)

    mutual
      whole_of : (e : Expr) → Sound wholes e → Whole e
      whole_of (field place name) h = whole_field place name h.is_of
      whole_of (number place n) h =
          let own = number_in n (needed (is_label_number n) _ place h.inside) in
          record { is = refl; form = kept_in (number_form n) own; own = own; within = (own, tt) }
      whole_of (text place t) h = let no = h.is_of in absurd (cc)
      whole_of (truth place b) h = let no = h.is_of in absurd (cc)
      whole_of (negation place e) h = let no = h.is_of in absurd (cc)
      whole_of (compare place rel a b) h = let no = h.is_of in absurd (cc)
      whole_of (minus place e) h =
          let made = option_map (product_form (negsuc 0)) (checks.form_in_range (Some fields) e) in
          let two = operand wholes e (fails_if (is_out_of_range made) _ place) h.inside in
          let inner = whole_of e two.0 in
          let f = product_form (negsuc 0) (form_of (plain_fields fields) e) in
          let is : made ≡ Some f = ap (option_map (product_form (negsuc 0))) inner.form in
          let own : is_in_range f ≡ true = not_false (is_in_range f) (ap is_out_of_range (sym is) ∙ passed (is_out_of_range made) _ place two.1) in
          record { is = inner.is; form = ap kept is ∙ kept_in f own; own = own; within = join_ranges (forms_in (plain_fields fields) e) (f ∷ []) inner.within (own, tt) }
      whole_of (chain Disjunction place parts) h = let no = h.is_of in absurd (cc)
      whole_of (chain Conjunction place parts) h = let no = h.is_of in absurd (cc)
      whole_of (chain Sum place parts) h =
          let made = option_map sum_form (checks.added (Some fields) parts) in
          let inner = wholes_of parts (empty_first (operands_failures (Some fields) wholes parts) (fails_if (is_out_of_range made) _ place) h.inside) in
          let f = sum_form (added (plain_fields fields) parts) in
          let is : made ≡ Some f = ap (option_map sum_form) inner.added in
          let own : is_in_range f ≡ true = not_false (is_in_range f) (ap is_out_of_range (sym is) ∙ passed (is_out_of_range made) _ place (empty_second (operands_failures (Some fields) wholes parts) (fails_if (is_out_of_range made) _ place) h.inside)) in
          record { is = inner.are; form = ap kept is ∙ kept_in f own; own = own; within = join_ranges (forms_in_all (plain_fields fields) parts) (f ∷ []) inner.within (own, tt) }
      whole_of (chain Product place parts) h =
          let inner = factors_of (number_form (pos 1)) false place parts refl (λ e. refl) h.inside in
          record { is = inner.are; form = inner.form; own = inner.own; within = join_ranges (forms_in_all (plain_fields fields) parts) (steps (plain_fields fields) (number_form (pos 1)) parts) inner.within inner.steps }

      wholes_of : (parts : Parts) → is_empty (operands_failures (Some fields) wholes parts) ≡ true → Wholes parts
      wholes_of no_parts h = record { are = refl; added = refl; within = tt }
      wholes_of (part subtracted e parts) h =
          let two = operand wholes e (operands_failures (Some fields) wholes parts) h in
          let first = whole_of e two.0 in
          let later = wholes_of parts two.1 in
          record {
            are = ap (λ b. b && are_wholes (plain_fields fields) parts) first.is ∙ later.are;
            added = ap₂ (λ f ps. checks.with_part subtracted f ps) first.form later.added;
            within = join_ranges (forms_in (plain_fields fields) e) (forms_in_all (plain_fields fields) parts) first.within later.within;
          }

      factors_of : (before : Form) (has : Bool) (place : Pos) (parts : Parts) → is_in_range before ≡ true → (has ≡ false → is_constant before ≡ true) → is_empty (steps_failures (Some fields) place has (Some before) parts) ≡ true → Factors before has parts
      factors_of before has place no_parts own bare h = record { are = refl; form = refl; own = own; within = tt; steps = tt }
      factors_of before has place (part true e parts) own bare h =
          let has_too = has || checks.has_field (Some fields) e in
          let rest = λ (f : Option Form). steps_failures (Some fields) place has_too f parts in
          let made = checks.remainder_of (Some before) (checks.divisor_of e) in
          let two = operand wholes e (divided e ++ rest made) h in
          let first = whole_of e two.0 in
          let d = divisor_is e (needed (is_some (checks.divisor_of e)) _ (place_of e) (empty_first (divided e) (rest made) two.1)) in
          let f = remainder_form before (divisor_of e) in
          let own_too = remainder_in before (divisor_of e) d.low d.few in
          let is : made ≡ Some f = ap (checks.remainder_of (Some before)) d.by in
          let later = factors_of f has_too place parts own_too (λ none. bare_step before has true e bare none) (ap (λ o. is_empty (rest o)) (sym is) ∙ empty_second (divided e) (rest made) two.1) in
          record {
            are = ap (λ b. b && are_factors (plain_fields fields) f parts) d.is ∙ later.are;
            form = ap (λ o. checks.form_behind (Some fields) has_too o parts) is ∙ later.form;
            own = later.own;
            within = join_ranges (forms_in (plain_fields fields) e) (forms_in_all (plain_fields fields) parts) first.within later.within;
            steps = (own_too, later.steps);
          }
      factors_of before has place (part false e parts) own bare h =
          let has_too = has || checks.has_field (Some fields) e in
          let rest = λ (f : Option Form). steps_failures (Some fields) place has_too f parts in
          let made = kept (product_of has (Some before) (checks.has_field (Some fields) e) (checks.form_in_range (Some fields) e)) in
          let failing = product_failures place has (Some before) (checks.has_field (Some fields) e) (checks.form_in_range (Some fields) e) in
          let two = operand wholes e (failing ++ rest made) h in
          let first = whole_of e two.0 in
          let step = factor_step before has place e bare first (empty_first failing (rest made) two.1) in
          let f = times before (form_of (plain_fields fields) e) in
          let later = factors_of f has_too place parts step.own (λ none. bare_step before has false e bare none) (ap (λ o. is_empty (rest o)) (sym step.form) ∙ empty_second failing (rest made) two.1) in
          record {
            are = (λ i. (first.is i && step.constant i) && are_factors (plain_fields fields) f parts) ∙ later.are;
            form = ap (λ o. checks.form_behind (Some fields) has_too o parts) step.form ∙ later.form;
            own = later.own;
            within = join_ranges (forms_in (plain_fields fields) e) (forms_in_all (plain_fields fields) parts) first.within later.within;
            steps = (step.own, later.steps);
          }

    text_of : (e : Expr) → Sound texts e → Text e
    text_of (field place name) h = record { is = field_is fields name texts h.is_of; within = tt }
    text_of (number place n) h = let no = h.is_of in absurd (cc)
    text_of (text place t) h = record { is = refl; within = tt }
    text_of (truth place b) h = let no = h.is_of in absurd (cc)
    text_of (negation place e) h = let no = h.is_of in absurd (cc)
    text_of (compare place rel a b) h = let no = h.is_of in absurd (cc)
    text_of (minus place e) h = let no = h.is_of in absurd (cc)
    text_of (chain Disjunction place parts) h = let no = h.is_of in absurd (cc)
    text_of (chain Conjunction place parts) h = let no = h.is_of in absurd (cc)
    text_of (chain Sum place parts) h = let no = h.is_of in absurd (cc)
    text_of (chain Product place parts) h = let no = h.is_of in absurd (cc)

    -- the sides of a comparison
    record Sides (rel : Rel) (a b : Expr) : Type 0 where
      pub is : ((is_whole (plain_fields fields) a && is_whole (plain_fields fields) b) || (is_equality rel && ((is_guard (plain_fields fields) a && is_guard (plain_fields fields) b) || (is_text (plain_fields fields) a && is_text (plain_fields fields) b)))) ≡ true
      pub left : AreInRange (forms_in (plain_fields fields) a)
      pub right : AreInRange (forms_in (plain_fields fields) b)

    whole_sides : (rel : Rel) (a b : Expr) → Whole a → Whole b → Sides rel a b
    whole_sides rel a b x y = record {
      is = λ i. (x.is i && y.is i) || (is_equality rel && ((is_guard (plain_fields fields) a && is_guard (plain_fields fields) b) || (is_text (plain_fields fields) a && is_text (plain_fields fields) b)));
      left = x.within;
      right = y.within;
    }

    guard_sides : (rel : Rel) (a b : Expr) → is_equality rel ≡ true → Guard a → Guard b → Sides rel a b
    guard_sides rel a b equal x y = record {
      is = or_right (is_whole (plain_fields fields) a && is_whole (plain_fields fields) b) _ (λ i. equal i && ((x.is i && y.is i) || (is_text (plain_fields fields) a && is_text (plain_fields fields) b)));
      left = x.within;
      right = y.within;
    }

    text_sides : (rel : Rel) (a b : Expr) → is_equality rel ≡ true → Text a → Text b → Sides rel a b
    text_sides rel a b equal x y = record {
      is = or_right (is_whole (plain_fields fields) a && is_whole (plain_fields fields) b) _
          (ap (λ e. e && ((is_guard (plain_fields fields) a && is_guard (plain_fields fields) b) || (is_text (plain_fields fields) a && is_text (plain_fields fields) b))) equal
          ∙ or_right (is_guard (plain_fields fields) a && is_guard (plain_fields fields) b) (is_text (plain_fields fields) a && is_text (plain_fields fields) b) (λ i. x.is i && y.is i));
      left = x.within;
      right = y.within;
    }

    -- the sides of an equality are of one sort
    record OneSort (a b : Expr) : Type 0 where
      pub sort : Sort
      pub left : Sound sort a
      pub right : Sound sort b

    one_sort_of : (place : Pos) (a b : Expr) → is_empty (label_failures (Some fields) a) ≡ true → is_empty (label_failures (Some fields) b) ≡ true → is_empty (fails_if (differ_in_sort (sort_of (Some fields) a) (sort_of (Some fields) b)) WrongSort place) ≡ true → OneSort a b
    one_sort_of place a b left right h =
        let found = is_there (sort_of (Some fields) a) (known_sort fields a known left) in
        let same : is_other_sort found.0 (sort_of (Some fields) b) ≡ false = ap (λ o. differ_in_sort o (sort_of (Some fields) b)) (sym found.1) ∙ passed (differ_in_sort (sort_of (Some fields) a) (sort_of (Some fields) b)) WrongSort place h in
        record {
          sort = found.0;
          left = record { inside = left; is_of = found.1 };
          right = sound_label fields found.0 b known (empty_both (label_failures (Some fields) b) (needs_sort (Some fields) found.0 b) right (ap (λ o. is_empty (fails_if o WrongSort (place_of b))) same));
        }

    ordered_sides : (rel : Rel) (a b : Expr) → is_empty (label_failures (Some fields) a) ≡ true → is_empty (label_failures (Some fields) b) ≡ true → is_empty (needs_sort (Some fields) wholes a ++ needs_sort (Some fields) wholes b) ≡ true → Sides rel a b
    ordered_sides rel a b left right h =
        whole_sides rel a b
        (whole_of a (sound_label fields wholes a known (empty_both (label_failures (Some fields) a) (needs_sort (Some fields) wholes a) left (empty_first (needs_sort (Some fields) wholes a) (needs_sort (Some fields) wholes b) h))))
        (whole_of b (sound_label fields wholes b known (empty_both (label_failures (Some fields) b) (needs_sort (Some fields) wholes b) right (empty_second (needs_sort (Some fields) wholes a) (needs_sort (Some fields) wholes b) h))))

    equal_sides : (rel : Rel) (a b : Expr) → is_equality rel ≡ true → (Sound truths a → Guard a) → (Sound truths b → Guard b) → (sort : Sort) → Sound sort a → Sound sort b → Sides rel a b
    equal_sides rel a b equal of_a of_b wholes x y = whole_sides rel a b (whole_of a x) (whole_of b y)
    equal_sides rel a b equal of_a of_b truths x y = guard_sides rel a b equal (of_a x) (of_b y)
    equal_sides rel a b equal of_a of_b texts x y = text_sides rel a b equal (text_of a x) (text_of b y)

    sides_of : (rel : Rel) (a b : Expr) → (Sound truths a → Guard a) → (Sound truths b → Guard b) → is_empty (label_failures (Some fields) a) ≡ true → is_empty (label_failures (Some fields) b) ≡ true → is_empty (compared (Some fields) rel a b) ≡ true → Sides rel a b
    sides_of Equal a b of_a of_b left right h = let one = one_sort_of (place_of b) a b left right h in equal_sides Equal a b refl of_a of_b one.sort one.left one.right
    sides_of NotEqual a b of_a of_b left right h = let one = one_sort_of (place_of b) a b left right h in equal_sides NotEqual a b refl of_a of_b one.sort one.left one.right
    sides_of Less a b of_a of_b left right h = ordered_sides Less a b left right h
    sides_of AtMost a b of_a of_b left right h = ordered_sides AtMost a b left right h
    sides_of Greater a b of_a of_b left right h = ordered_sides Greater a b left right h
    sides_of AtLeast a b of_a of_b left right h = ordered_sides AtLeast a b left right h

    mutual
      guard_of : (e : Expr) → Sound truths e → Guard e
      guard_of (field place name) h = record { is = field_is fields name truths h.is_of; within = tt }
      guard_of (number place n) h = let no = h.is_of in absurd (cc)
      guard_of (text place t) h = let no = h.is_of in absurd (cc)
      guard_of (truth place b) h = record { is = refl; within = tt }
      guard_of (negation place e) h =
          let inner = guard_of e (sound_label fields truths e known h.inside) in
          record { is = inner.is; within = inner.within }
      guard_of (compare place rel a b) h =
          let first = empty_first (label_failures (Some fields) a) (label_failures (Some fields) b ++ compared (Some fields) rel a b) h.inside in
          let behind = empty_second (label_failures (Some fields) a) (label_failures (Some fields) b ++ compared (Some fields) rel a b) h.inside in
          let second = empty_first (label_failures (Some fields) b) (compared (Some fields) rel a b) behind in
          let sides = sides_of rel a b (λ x. guard_of a x) (λ x. guard_of b x) first second (empty_second (label_failures (Some fields) b) (compared (Some fields) rel a b) behind) in
          record { is = sides.is; within = join_ranges (forms_in (plain_fields fields) a) (forms_in (plain_fields fields) b) sides.left sides.right }
      guard_of (minus place e) h = let no = h.is_of in absurd (cc)
      guard_of (chain Disjunction place parts) h = let inner = guards_of parts h.inside in record { is = inner.are; within = inner.within }
      guard_of (chain Conjunction place parts) h = let inner = guards_of parts h.inside in record { is = inner.are; within = inner.within }
      guard_of (chain Sum place parts) h = let no = h.is_of in absurd (cc)
      guard_of (chain Product place parts) h = let no = h.is_of in absurd (cc)

      guards_of : (parts : Parts) → is_empty (operands_failures (Some fields) truths parts) ≡ true → Guards parts
      guards_of no_parts h = record { are = refl; within = tt }
      guards_of (part marked e parts) h =
          let two = operand truths e (operands_failures (Some fields) truths parts) h in
          let first = guard_of e two.0 in
          let later = guards_of parts two.1 in
          record {
            are = ap (λ b. b && are_guards (plain_fields fields) parts) first.is ∙ later.are;
            within = join_ranges (forms_in (plain_fields fields) e) (forms_in_all (plain_fields fields) parts) first.within later.within;
          }

-- ---- what is sound

pub record SoundGuard (fields : List PlainField) (e : Expr) : Type 0 where
  pub is : is_guard fields e ≡ true
  pub within : (n : ℤ) → HasOutside (forms_in fields e) n → ⊥

pub record SoundWhole (items : List FieldItem) (fields : List PlainField) (e : Expr) : Type 0 where
  pub is : is_whole fields e ≡ true
  pub form : checks.form_in_range (Some items) e ≡ Some (form_of fields e)
  pub within : (n : ℤ) → HasOutside (forms_in fields e) n → ⊥

pub record SoundText (fields : List PlainField) (e : Expr) : Type 0 where
  pub is : is_text fields e ≡ true
  pub within : (n : ℤ) → HasOutside (forms_in fields e) n → ⊥

module _ (fields : List FieldItem) (known : list_all (λ f. is_some (sort_named f.sort.text)) fields ≡ true) (few : length fields ≤ most_fields) where
  pub sound_guard : (e : Expr) → IsSoundLabel fields truths e → SoundGuard (plain_fields fields) e
  sound_guard e h = let g = guard_of fields known few e h in record { is = g.is; within = none_outside (forms_in (plain_fields fields) e) g.within }

  pub sound_whole : (e : Expr) → IsSoundLabel fields wholes e → SoundWhole fields (plain_fields fields) e
  sound_whole e h = let w = whole_of fields known few e h in record { is = w.is; form = w.form; within = none_outside (forms_in (plain_fields fields) e) w.within }

  pub sound_text : (e : Expr) → IsSoundLabel fields texts e → SoundText (plain_fields fields) e
  sound_text e h = let t = text_of fields known few e h in record { is = t.is; within = none_outside (forms_in (plain_fields fields) e) t.within }
