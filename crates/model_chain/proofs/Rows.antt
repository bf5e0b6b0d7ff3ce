-- The value of a row of coefficients.
use Rattle.std.proofs.Common.{◌≡◌, ℕ, zero, suc, ◌+◌, ◌<◌, ◌≤◌, List, [], ◌∷◌, length, get_or, arith, refl, ap, ◌∙◌}
use Rattle.std.proofs.Math.IntN.{ℤ, pos, ◌+ℤ◌, ◌-ℤ◌, ◌*ℤ◌}
use Rattle.std.proofs.Math.ListN.{length-set, length-replicate}
use Rattle.std.proofs.lemmas.Int.{ints}
use Rattle.math_int.proofs.Laws.{times-assoc, times-add, add-times}
use Rattle.math_cooper.specs.System.{dot}
use Rattle.math_cooper.proofs.Systems.{dot-zeros}
use Rattle.model_form.specs.Form.{Form, form, Term, Remainders, no_remainders, remainder, constant_of, terms_value}
use Rattle.model_form.specs.Sums.{add_fields}
use Rattle.model_form.specs.Over.{AreBelow, IsOver}
use Rattle.model_form.proofs.Values.{length-add_fields}
use Rattle.model_chain.specs.Literals.{Remainder, place, add_at, add_places, add_terms, width, zeros}

pub length-add_at : (n : ℕ) (a : ℤ) (row : List ℤ) → length (add_at n a row) ≡ length row
length-add_at n a row = length-set row n (get_or row n (pos 0) +ℤ a)

dot_empty : (row : List ℤ) → dot row [] ≡ pos 0
unfolding dot
dot_empty [] = refl
dot_empty (x ∷ row) = refl

pub dot-add_at : (n : ℕ) (a : ℤ) (row vs : List ℤ) → n < length row → dot (add_at n a row) vs ≡ (a *ℤ get_or vs n (pos 0)) +ℤ dot row vs
unfolding dot
dot-add_at n a [] vs h = absurd (omega arith)
dot-add_at zero a (x ∷ row) [] h = omega (arith, ints)
dot-add_at zero a (x ∷ row) (v ∷ vs) h = omega (arith, ints, add-times v x a)
dot-add_at (suc n) a (x ∷ row) [] h = omega (arith, ints)
dot-add_at (suc n) a (x ∷ row) (v ∷ vs) h = let r = dot-add_at n a row vs (omega arith) in omega (arith, ints)

pub dot-fields : (by : ℤ) (ts : List Term) (row vs : List ℤ) → AreBelow 8 ts → 8 ≤ length row → dot (add_fields by ts row) vs ≡ (by *ℤ terms_value ts vs) +ℤ dot row vs
dot-fields by [] row vs b h = omega (arith, ints)
dot-fields by (t ∷ ts) row vs b h =
    let next = add_at t.field (by *ℤ t.coefficient) row in
    let len = length-add_at t.field (by *ℤ t.coefficient) row in
    let rest = dot-fields by ts next vs b.1 (omega arith) in
    let own = dot-add_at t.field (by *ℤ t.coefficient) row vs (let q = b.0 in omega arith) in
    omega (arith, ints, rest, own, times-assoc by t.coefficient (get_or vs t.field (pos 0)), times-add by (t.coefficient *ℤ get_or vs t.field (pos 0)) (terms_value ts vs))

-- ---- remainders

-- the coefficients times the values at the places of the remainders
abbrev pub places_value : List Remainder → Remainders → List ℤ → ℤ
places_value R no_remainders vs = pos 0
places_value R (remainder a f k rs) vs = (a *ℤ get_or vs (8 + place (record { inner = f; divisor = k }) R) (pos 0)) +ℤ places_value R rs vs

-- each remainder has its place among the first n
abbrev pub ArePlaced : List Remainder → ℕ → Remainders → Type 0
ArePlaced R n no_remainders = Unit {0}
ArePlaced R n (remainder a f k rs) = (place (record { inner = f; divisor = k }) R < n) × ArePlaced R n rs

pub length-places : (R : List Remainder) (by : ℤ) (rs : Remainders) (row : List ℤ) → length (add_places R by rs row) ≡ length row
length-places R by no_remainders row = refl
length-places R by (remainder a f k rs) row =
    let n = 8 + place (record { inner = f; divisor = k }) R in length-places R by rs (add_at n (by *ℤ a) row) ∙ length-add_at n (by *ℤ a) row

pub dot-places : (R : List Remainder) (by : ℤ) (rs : Remainders) (row vs : List ℤ) → ArePlaced R (length R) rs → length row ≡ width R → dot (add_places R by rs row) vs ≡ (by *ℤ places_value R rs vs) +ℤ dot row vs
dot-places R by no_remainders row vs p h = omega (arith, ints)
dot-places R by (remainder a f k rs) row vs p h =
    let n = 8 + place (record { inner = f; divisor = k }) R in
    let next = add_at n (by *ℤ a) row in
    let len = length-add_at n (by *ℤ a) row in
    let rest = dot-places R by rs next vs p.1 (omega arith) in
    let own = dot-add_at n (by *ℤ a) row vs (let q = p.0 in omega arith) in
    omega (arith, ints, rest, own, times-assoc by a (get_or vs n (pos 0)), times-add by (a *ℤ get_or vs n (pos 0)) (places_value R rs vs))

-- ---- forms

-- the value of a form at values of the fields and the new variables
abbrev pub linear_value : List Remainder → Form → List ℤ → ℤ
linear_value R (form c ts rs) vs = c +ℤ (terms_value ts vs +ℤ places_value R rs vs)

-- the form is over the first eight fields, and each of its remainders has its place among the first n
abbrev pub IsPlaced : List Remainder → ℕ → Form → Type 0
IsPlaced R n (form c ts rs) = IsOver 8 (form c ts rs) × ArePlaced R n rs

pub length-terms : (R : List Remainder) (by : ℤ) (f : Form) (row : List ℤ) → length (add_terms R by f row) ≡ length row
length-terms R by (form c ts rs) row = length-places R by rs (add_fields by ts row) ∙ length-add_fields by ts row

pub dot-terms : (R : List Remainder) (by : ℤ) (f : Form) (row vs : List ℤ) → IsPlaced R (length R) f → length row ≡ width R → dot (add_terms R by f row) vs ≡ (by *ℤ (linear_value R f vs -ℤ constant_of f)) +ℤ dot row vs
dot-terms R by (form c ts rs) row vs p h =
    let next = add_fields by ts row in
    let len = length-add_fields by ts row in
    let e : (c +ℤ (terms_value ts vs +ℤ places_value R rs vs)) -ℤ c ≡ terms_value ts vs +ℤ places_value R rs vs = omega (arith, ints) in
    omega (arith, ints, dot-places R by rs next vs p.1 (omega arith), dot-fields by ts row vs p.0.0 (omega arith), times-add by (terms_value ts vs) (places_value R rs vs), ap (λ z. by *ℤ z) e)

pub length-zeros : (R : List Remainder) → length (zeros R) ≡ width R
length-zeros R = length-replicate (width R) (pos 0)

pub dot-no_terms : (R : List Remainder) (vs : List ℤ) → dot (zeros R) vs ≡ pos 0
dot-no_terms R vs = dot-zeros (width R) vs
