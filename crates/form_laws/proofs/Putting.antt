-- Forms that are the same are the same once forms that are the same are put for their fields.
use Rattle.std.proofs.Common.{◌≡◌, ℕ, ◌<◌, ◌==◌, List, [], ◌∷◌, length, get_or, Bool, true, false, cond, refl, ap, sym, subst, ◌∙◌, arith, eqb-true}
use Rattle.std.proofs.Math.ListN.{set, length-set}
use Rattle.std.proofs.Math.IntN.{ℤ, pos, ◌+ℤ◌, ◌*ℤ◌}
use Rattle.std.proofs.lemmas.Int.{ints}
use Rattle.std.proofs.lemmas.List.{ext_get_or, get_or-set_same, get_or-set_other}
use Rattle.std.specs.Ordering.{is_gt}
use Rattle.math_int.proofs.Laws.{times-add}
use Rattle.model_form.specs.Form.{Form, form, Remainders, no_remainders, remainder, Term, count, modulo}
use Rattle.model_form.specs.Same.{Item, members, remainders, ordered, ordered_all, item_cmp, put, same_form}
use Rattle.model_form.specs.Sums.{Sum, started, number_form, add_fields, add_remainders, add_form, form_of_sum, without_zeros, fields_from, remainder_form, subst_form, put_fields, put_remainders}
use Rattle.model_form.specs.Ranges.{AreApart}
use Rattle.model_form.proofs.Equals.{same_laws, same_out, same_in, same_parts, same_by_parts, same_remainders_out, length-members}
use Rattle.model_form.proofs.Values.{length-add_fields}
use Rattle.form_laws.specs.Laws.{AreSame}
use Rattle.form_laws.proofs.Coefficients.{coefficient, add_remainders-coefficient, without_zeros-coefficient, same_coefficients, add_remainders_apart, without_zeros_apart, none_is_zero, members_over, as_many}

-- ---- equality of forms

pub same_itself : (f : Form) → same_form f f ≡ true
same_itself f = same_laws.refl f

pub same_turned : (f g : Form) → same_form f g ≡ true → same_form g f ≡ true
same_turned f g e = sym (same_laws.symm f g) ∙ e

pub same_further : (f g h : Form) → same_form f g ≡ true → same_form g h ≡ true → same_form f h ≡ true
same_further f g h e d = same_laws.congr f g h e ∙ d

-- ---- sums with the same coefficients

record IsSameSum (s t : Sum) : Type 0 where
  constant : s.constant ≡ t.constant
  totals : s.totals ≡ t.totals
  terms : (h : Form) (m : ℕ) → coefficient (members s.terms) h m ≡ coefficient (members t.terms) h m
  first : AreApart s.terms
  second : AreApart t.terms

sum_itself : (s : Sum) → AreApart s.terms → IsSameSum s s
sum_itself s apart = record { constant = refl; totals = refl; terms = λ h m. refl; first = apart; second = apart }

sum_further : (s t u : Sum) → IsSameSum s t → IsSameSum t u → IsSameSum s u
sum_further s t u e d = record { constant = e.constant ∙ d.constant; totals = e.totals ∙ d.totals; terms = λ h m. e.terms h m ∙ d.terms h m; first = e.first; second = d.second }

form_same : (s t : Sum) → IsSameSum s t → same_form (form_of_sum s) (form_of_sum t) ≡ true
form_same s t e =
    let p = without_zeros s.terms in
    let q = without_zeros t.terms in
    let own = without_zeros_apart s.terms e.first in
    let other = without_zeros_apart t.terms e.second in
    let same : (h : Form) (m : ℕ) → coefficient (members p) h m ≡ coefficient (members q) h m = λ h m. without_zeros-coefficient s.terms h m ∙ e.terms h m ∙ sym (without_zeros-coefficient t.terms h m) in
    let to = members_over p q own other (none_is_zero s.terms) same in
    let back = members_over q p other own (none_is_zero t.terms) (λ h m. sym (same h m)) in
    let many : count p ≡ count q = sym (length-members p) ∙ as_many p q own other to back ∙ length-members q in
    sym (same_by_parts s.constant t.constant (fields_from 0 s.totals) (fields_from 0 t.totals) p q e.constant (ap (fields_from 0) e.totals) own many to)

-- one form more
more_same : (by : ℤ) (f g : Form) (s t : Sum) → same_form f g ≡ true → IsSameSum s t → IsSameSum (add_form by f s) (add_form by g t)
more_same by (form c ts rs) (form d us qs) s t e same =
    let parts = same_parts c d ts us rs qs e in
    record {
      constant = λ i. same.constant i +ℤ (by *ℤ parts.0 i);
      totals = λ i. add_fields by (parts.1 i) (same.totals i);
      terms = λ h m. add_remainders-coefficient by rs s.terms h m ∙ (λ i. same.terms h m i +ℤ (by *ℤ same_coefficients rs qs parts.2 h m i)) ∙ sym (add_remainders-coefficient by qs t.terms h m);
      first = add_remainders_apart by rs s.terms same.first;
      second = add_remainders_apart by qs t.terms same.second;
    }

-- ---- two forms more, in either order

-- the coefficient of the field in the terms
abbrev field_total : List Term → ℕ → ℤ
field_total [] i = pos 0
field_total (t ∷ ts) i = cond (t.field == i) t.coefficient (pos 0) +ℤ field_total ts i

set_at : (totals : List ℤ) (j i : ℕ) (d : ℤ) → i < length totals → get_or (set totals j (get_or totals j (pos 0) +ℤ d)) i (pos 0) ≡ get_or totals i (pos 0) +ℤ cond (j == i) d (pos 0)
set_at totals j i d low = by (j == i) refl
  where
    none : (x : ℤ) → x ≡ x +ℤ pos 0
    none x = omega (arith, ints)

    by : (b : Bool) → (j == i) ≡ b → get_or (set totals j (get_or totals j (pos 0) +ℤ d)) i (pos 0) ≡ get_or totals i (pos 0) +ℤ cond b d (pos 0)
    by true e = let same = eqb-true j i e in subst (λ k. get_or (set totals k (get_or totals k (pos 0) +ℤ d)) i (pos 0) ≡ get_or totals i (pos 0) +ℤ d) (sym same) (get_or-set_same totals i (get_or totals i (pos 0) +ℤ d) (pos 0) low)
    by false e = get_or-set_other totals j i (get_or totals j (pos 0) +ℤ d) (pos 0) (λ same. other same e) ∙ none (get_or totals i (pos 0))
      where
        other : i ≡ j → (j == i) ≡ false → ⊥
        other same e' = grind (arith)

add_fields_at : (by : ℤ) (ts : List Term) (totals : List ℤ) (i : ℕ) → i < length totals → get_or (add_fields by ts totals) i (pos 0) ≡ get_or totals i (pos 0) +ℤ (by *ℤ field_total ts i)
add_fields_at by [] totals i low = none (get_or totals i (pos 0))
  where
    none : (x : ℤ) → x ≡ x +ℤ (by *ℤ pos 0)
    none x = omega (arith, ints)
add_fields_at by (t ∷ ts) totals i low =
    let more = set totals t.field (get_or totals t.field (pos 0) +ℤ (by *ℤ t.coefficient)) in
    add_fields_at by ts more i (subst (λ n. i < n) (sym (length-set totals t.field _)) low)
    ∙ ap (λ z. z +ℤ (by *ℤ field_total ts i)) (set_at totals t.field i (by *ℤ t.coefficient) low ∙ ap (λ z. get_or totals i (pos 0) +ℤ z) (scaled (t.field == i)))
    ∙ gather (get_or totals i (pos 0)) (by *ℤ cond (t.field == i) t.coefficient (pos 0)) (by *ℤ field_total ts i)
    ∙ ap (λ z. get_or totals i (pos 0) +ℤ z) (sym (times-add by (cond (t.field == i) t.coefficient (pos 0)) (field_total ts i)))
  where
    gather : (x y z : ℤ) → (x +ℤ y) +ℤ z ≡ x +ℤ (y +ℤ z)
    gather x y z = omega (arith, ints)

    scaled : (b : Bool) → cond b (by *ℤ t.coefficient) (pos 0) ≡ by *ℤ cond b t.coefficient (pos 0)
    scaled true = refl
    scaled false = omega (arith, ints)

turned : (x y z : ℤ) → (x +ℤ y) +ℤ z ≡ (x +ℤ z) +ℤ y
turned x y z = omega (arith, ints)

fields_exchanged : (a b : ℤ) (ts us : List Term) (totals : List ℤ) → add_fields a ts (add_fields b us totals) ≡ add_fields b us (add_fields a ts totals)
fields_exchanged a b ts us totals =
    let first = length-add_fields a ts (add_fields b us totals) ∙ length-add_fields b us totals in
    let second = length-add_fields b us (add_fields a ts totals) ∙ length-add_fields a ts totals in
    ext_get_or (pos 0) (add_fields a ts (add_fields b us totals)) (add_fields b us (add_fields a ts totals)) (first ∙ sym second) (λ i low.
    let here : i < length totals = subst (λ n. i < n) first low in
    add_fields_at a ts (add_fields b us totals) i (subst (λ n. i < n) (sym (length-add_fields b us totals)) here)
    ∙ ap (λ z. z +ℤ (a *ℤ field_total ts i)) (add_fields_at b us totals i here)
    ∙ turned (get_or totals i (pos 0)) (b *ℤ field_total us i) (a *ℤ field_total ts i)
    ∙ sym (add_fields_at b us (add_fields a ts totals) i (subst (λ n. i < n) (sym (length-add_fields a ts totals)) here) ∙ ap (λ z. z +ℤ (b *ℤ field_total us i)) (add_fields_at a ts totals i here)))

exchanged : (a b : ℤ) (f g : Form) (s : Sum) → AreApart s.terms → IsSameSum (add_form a f (add_form b g s)) (add_form b g (add_form a f s))
exchanged a b (form c ts rs) (form d us qs) s apart = record {
  constant = turned s.constant (b *ℤ d) (a *ℤ c);
  totals = fields_exchanged a b ts us s.totals;
  terms = λ h m.
      add_remainders-coefficient a rs (add_remainders b qs s.terms) h m ∙ ap (λ z. z +ℤ (a *ℤ coefficient (members rs) h m)) (add_remainders-coefficient b qs s.terms h m)
      ∙ turned (coefficient (members s.terms) h m) (b *ℤ coefficient (members qs) h m) (a *ℤ coefficient (members rs) h m)
      ∙ sym (add_remainders-coefficient b qs (add_remainders a rs s.terms) h m ∙ ap (λ z. z +ℤ (b *ℤ coefficient (members qs) h m)) (add_remainders-coefficient a rs s.terms h m));
  first = add_remainders_apart a rs (add_remainders b qs s.terms) (add_remainders_apart b qs s.terms apart);
  second = add_remainders_apart b qs (add_remainders a rs s.terms) (add_remainders_apart a rs s.terms apart);
}

form_apart : (by : ℤ) (f : Form) (s : Sum) → AreApart s.terms → AreApart (add_form by f s).terms
form_apart by (form c ts rs) s apart = add_remainders_apart by rs s.terms apart

-- ---- the remainder of a form

remainder_same : (f g : Form) (k : ℕ) → same_form f g ≡ true → same_form (remainder_form f k) (remainder_form g k) ≡ true
remainder_same (form c [] no_remainders) (form d [] no_remainders) k e = let parts = same_parts c d [] [] no_remainders no_remainders e in subst (λ z. same_form (number_form (modulo c k)) (number_form (modulo z k)) ≡ true) parts.0 (same_itself (number_form (modulo c k)))
remainder_same (form c [] no_remainders) (form d [] (remainder b g m qs)) k e = let many = (same_remainders_out no_remainders (remainder b g m qs) (same_parts c d [] [] no_remainders (remainder b g m qs) e).2).0 in absurd (omega (arith, many))
remainder_same (form c [] no_remainders) (form d (u ∷ us) qs) k e = let many = ap length (same_parts c d [] (u ∷ us) no_remainders qs e).1 in absurd (omega (arith, many))
remainder_same (form c (t ∷ ts) rs) (form d [] qs) k e = let many = ap length (same_parts c d (t ∷ ts) [] rs qs e).1 in absurd (omega (arith, many))
remainder_same (form c [] (remainder a f j rs)) (form d [] no_remainders) k e = let many = (same_remainders_out (remainder a f j rs) no_remainders (same_parts c d [] [] (remainder a f j rs) no_remainders e).2).0 in absurd (omega (arith, many))
remainder_same (form c [] (remainder a f j rs)) (form d (u ∷ us) qs) k e = let many = ap length (same_parts c d [] (u ∷ us) (remainder a f j rs) qs e).1 in absurd (omega (arith, many))
remainder_same (form c (t ∷ ts) rs) (form d (u ∷ us) qs) k e = one_same (form c (t ∷ ts) rs) (form d (u ∷ us) qs) k e
  where
    one_same : (f g : Form) (k : ℕ) → same_form f g ≡ true → same_form (form (pos 0) [] (remainder (pos 1) f k no_remainders)) (form (pos 0) [] (remainder (pos 1) g k no_remainders)) ≡ true
    one_same f g k e = same_in (form (pos 0) [] (remainder (pos 1) f k no_remainders)) (form (pos 0) [] (remainder (pos 1) g k no_remainders)) (ap (λ h. form (pos 0) [] (remainder (pos 1) h k no_remainders)) (same_out f g e))
remainder_same (form c [] (remainder a f j rs)) (form d [] (remainder b g m qs)) k e = one_same (form c [] (remainder a f j rs)) (form d [] (remainder b g m qs)) k e
  where
    one_same : (f g : Form) (k : ℕ) → same_form f g ≡ true → same_form (form (pos 0) [] (remainder (pos 1) f k no_remainders)) (form (pos 0) [] (remainder (pos 1) g k no_remainders)) ≡ true
    one_same f g k e = same_in (form (pos 0) [] (remainder (pos 1) f k no_remainders)) (form (pos 0) [] (remainder (pos 1) g k no_remainders)) (ap (λ h. form (pos 0) [] (remainder (pos 1) h k no_remainders)) (same_out f g e))

-- ---- the same forms put for the fields

module _ (gs hs : List Form) (same : AreSame gs hs) where
  fields_put : (ts : List Term) (s t : Sum) → IsSameSum s t → IsSameSum (put_fields ts gs s) (put_fields ts hs t)
  fields_put [] s t e = e
  fields_put (u ∷ ts) s t e =
      fields_put ts (add_form u.coefficient (get_or gs u.field (number_form (pos 0))) s) (add_form u.coefficient (get_or hs u.field (number_form (pos 0))) t)
      (more_same u.coefficient (get_or gs u.field (number_form (pos 0))) (get_or hs u.field (number_form (pos 0))) s t (same u.field) e)

  mutual
    same_put : (f : Form) → same_form (subst_form f gs) (subst_form f hs) ≡ true
    same_put (form c ts rs) = form_same (put_remainders rs gs (put_fields ts gs (started c))) (put_remainders rs hs (put_fields ts hs (started c))) (remainders_put rs _ _ (fields_put ts (started c) (started c) (sum_itself (started c) tt)))

    remainders_put : (rs : Remainders) (s t : Sum) → IsSameSum s t → IsSameSum (put_remainders rs gs s) (put_remainders rs hs t)
    remainders_put no_remainders s t e = e
    remainders_put (remainder a f k rs) s t e =
        remainders_put rs (add_form a (remainder_form (subst_form f gs) k) s) (add_form a (remainder_form (subst_form f hs) k) t)
        (more_same a (remainder_form (subst_form f gs) k) (remainder_form (subst_form f hs) k) s t (remainder_same (subst_form f gs) (subst_form f hs) k (same_put f)) e)

-- ---- forms in order

module _ (gs : List Form) where
  own : AreSame gs gs
  own i = same_itself (get_or gs i (number_form (pos 0)))

  abbrev with_item : Item → Sum → Sum
  with_item x s = add_form x.coefficient (remainder_form (subst_form x.inner gs) x.divisor) s

  moved : (x : Item) (ys : List Item) (s : Sum) → AreApart s.terms → IsSameSum (put_remainders (remainders (x ∷ ys)) gs s) (put_remainders (remainders (put item_cmp x ys)) gs s)
  moved x [] s apart = remainders_put gs gs own (remainders (x ∷ [])) s s (sum_itself s apart)
  moved x (y ∷ ys) s apart = by (is_gt (item_cmp x y)) (moved x ys (with_item y s) (form_apart y.coefficient (remainder_form (subst_form y.inner gs) y.divisor) s apart))
    where
      by : (b : Bool) → IsSameSum (put_remainders (remainders (x ∷ ys)) gs (with_item y s)) (put_remainders (remainders (put item_cmp x ys)) gs (with_item y s))
          → IsSameSum (put_remainders (remainders (x ∷ y ∷ ys)) gs s) (put_remainders (remainders (cond b (y ∷ put item_cmp x ys) (x ∷ y ∷ ys))) gs s)
      by false rest = remainders_put gs gs own (remainders (x ∷ y ∷ ys)) s s (sum_itself s apart)
      by true rest =
          sum_further (put_remainders (remainders (x ∷ y ∷ ys)) gs s) (put_remainders (remainders (x ∷ ys)) gs (with_item y s)) (put_remainders (remainders (put item_cmp x ys)) gs (with_item y s))
          (remainders_put gs gs own (remainders ys) (with_item y (with_item x s)) (with_item x (with_item y s))
          (exchanged y.coefficient x.coefficient (remainder_form (subst_form y.inner gs) y.divisor) (remainder_form (subst_form x.inner gs) x.divisor) s apart)) rest

  mutual
    put_in_order : (f : Form) → same_form (subst_form f gs) (subst_form (ordered f) gs) ≡ true
    put_in_order (form c ts rs) =
        form_same (put_remainders rs gs (put_fields ts gs (started c))) (put_remainders (remainders (ordered_all rs)) gs (put_fields ts gs (started c)))
        (all_in_order rs (put_fields ts gs (started c)) (put_fields ts gs (started c)) (fields_put gs gs own ts (started c) (started c) (sum_itself (started c) tt)))

    all_in_order : (rs : Remainders) (s t : Sum) → IsSameSum s t → IsSameSum (put_remainders rs gs s) (put_remainders (remainders (ordered_all rs)) gs t)
    all_in_order no_remainders s t e = e
    all_in_order (remainder a f k rs) s t e =
        let x : Item = record { coefficient = a; inner = ordered f; divisor = k } in
        sum_further (put_remainders (remainder a f k rs) gs s) (put_remainders (remainders (ordered_all rs)) gs (with_item x t)) (put_remainders (remainders (put item_cmp x (ordered_all rs))) gs t)
        (all_in_order rs (add_form a (remainder_form (subst_form f gs) k) s) (with_item x t)
        (more_same a (remainder_form (subst_form f gs) k) (remainder_form (subst_form (ordered f) gs) k) s t (remainder_same (subst_form f gs) (subst_form (ordered f) gs) k (put_in_order f)) e))
        (moved x (ordered_all rs) t e.second)

-- ---- both

pub put_same : (f g : Form) (gs hs : List Form) → same_form f g ≡ true → AreSame gs hs → same_form (subst_form f gs) (subst_form g hs) ≡ true
put_same f g gs hs e same =
    same_further (subst_form f gs) (subst_form f hs) (subst_form g hs) (same_put gs hs same f)
    (same_further (subst_form f hs) (subst_form (ordered f) hs) (subst_form g hs) (put_in_order hs f)
    (subst (λ h. same_form (subst_form h hs) (subst_form g hs) ≡ true) (sym (same_out f g e)) (same_turned (subst_form g hs) (subst_form (ordered g) hs) (put_in_order hs g))))
