-- Rows while they are filled.
use Rattle.std.proofs.Common.{◌≡◌, ℕ, suc, ◌+◌, ◌*◌, ◌^◌, ◌<◌, ◌≤◌, List, [], ◌∷◌, length, drop, get_or, replicate, to_z, of_z, Bool, true, false, cond, ap, sym, ◌∙◌, subst, arith}
use Rattle.std.proofs.Math.IntN.{ℤ, pos, ◌+ℤ◌, ◌-ℤ◌, ◌*ℤ◌}
use Rattle.std.specs.Prelude.{unsigned_abs, FitsSigned}
use Rattle.std.specs.Int.{w64, w128}
use Rattle.std.proofs.lemmas.Int.{ints, fits_signed_from_abs, to_z-of_z}
use Rattle.std.proofs.lemmas.List.{at_drop_more, at_drop_all, set_past}
use Rattle.std.proofs.lemmas.List.Elements.{All-set, All-replicate}
use Rattle.math_cooper.specs.Line.{AtLeastZero}
use Rattle.model_form.specs.Form.{Form, form, constant_of, fields_of, remainders_of, Term, Remainders}
use Rattle.model_form.specs.Sums.{add_fields, sign}
use Rattle.model_form.specs.Ranges.{AreFields, AreRemainders, IsForm, IsCoefficient}
use Rattle.model_chain.specs.Literals as plain
use Rattle.model_chain.specs.Literals.{add_at, add_places, add_terms, place, over, zeros}
use Rattle.lin_form.specs.declared.form.FieldTerm.{FieldTerm}
use Rattle.lin_form.specs.declared.form.RemTerm.{RemTerm}
use Rattle.lin_form.specs.Terms.{plain_fields, plain_remainders}
use Rattle.lin_form.proofs.Evaluating.{fields_few, coefficient_at, remainder_at}
use Rattle.lin_form.specs.Nest.{base_of, divisors_of}
use Rattle.lin_form.proofs.Nests.{alone_base, last_part}
use Rattle.lin_solve.specs.Plain.{plain_term, front_remainder, Within}

-- ---- one place

pub at_past : (row : List ℤ) (n : ℕ) (a : ℤ) → length row ≤ n → row ≡ add_at n a row
at_past row n a l = sym (set_past row n (get_or row n (pos 0) +ℤ a) l)

pub within_more : (b : ℕ) (row : List ℤ) → Within b row → Within (b + 2 ^ 31) row
within_more b row h k d l = let r = h k d l in omega arith

pub within_at : (b n : ℕ) (a : ℤ) (row : List ℤ) → n < length row → unsigned_abs a ≤ 2 ^ 31 → Within b row → Within (b + 2 ^ 31) (add_at n a row)
within_at b n a row l s h =
    let own = h n (pos 0) l in
    All-set (λ z. unsigned_abs z ≤ b + 2 ^ 31) row n (get_or row n (pos 0) +ℤ a) (omega (arith, ints)) (within_more b row h)

pub sum_fits : (z a : ℤ) (b : ℕ) → unsigned_abs z ≤ b → unsigned_abs a ≤ 2 ^ 31 → b ≤ 2 ^ 120 → FitsSigned w128 (z +ℤ a)
sum_fits z a b h k l = fits_signed_from_abs w128 (z +ℤ a) (omega (arith, ints))

-- ---- loops

pub fields_step : (by : ℤ) (ts : List FieldTerm) (k : ℕ) (t : FieldTerm) (row : List ℤ) → k < length ts → t ≡ get_or ts k t → add_fields by (plain_fields (drop k ts)) row ≡ add_fields by (plain_fields (drop (k + 1) ts)) (add_at t.field (by *ℤ t.coefficient) row)
fields_step by ts k t row l is = at_drop_more (λ us. add_fields by (plain_fields us) row) ts k t l ∙ ap (λ (x : FieldTerm). add_fields by (plain_fields (drop (k + 1) ts)) (add_at x.field (by *ℤ x.coefficient) row)) (sym is)

pub fields_end : (by : ℤ) (ts : List FieldTerm) (k : ℕ) (row : List ℤ) → length ts ≤ k → add_fields by (plain_fields (drop k ts)) row ≡ row
fields_end by ts k row l = at_drop_all (λ us. add_fields by (plain_fields us) row) ts k l

pub places_step : (R : List plain.Remainder) (by : ℤ) (ts : List RemTerm) (k : ℕ) (t : RemTerm) (row : List ℤ) → k < length ts → t ≡ get_or ts k t → add_places R by (plain_remainders (drop k ts)) row ≡ add_places R by (plain_remainders (drop (k + 1) ts)) (add_at (8 + place (plain_term t) R) (by *ℤ t.coefficient) row)
places_step R by ts k t row l is = at_drop_more (λ us. add_places R by (plain_remainders us) row) ts k t l ∙ ap (λ (x : RemTerm). add_places R by (plain_remainders (drop (k + 1) ts)) (add_at (8 + place (plain_term x) R) (by *ℤ x.coefficient) row)) (sym is)

pub places_end : (R : List plain.Remainder) (by : ℤ) (ts : List RemTerm) (k : ℕ) (row : List ℤ) → length ts ≤ k → add_places R by (plain_remainders (drop k ts)) row ≡ row
places_end R by ts k row l = at_drop_all (λ us. add_places R by (plain_remainders us) row) ts k l

pub field_coefficient : (ts : List FieldTerm) (k : ℕ) (t : FieldTerm) → AreFields 0 (plain_fields ts) → k < length ts → t ≡ get_or ts k t → IsCoefficient t.coefficient
field_coefficient ts k t h l is = subst (λ (x : FieldTerm). IsCoefficient x.coefficient) (sym is) (coefficient_at 0 ts k t h l)

pub place_coefficient : (ts : List RemTerm) (k : ℕ) (t : RemTerm) → AreRemainders (plain_remainders ts) → k < length ts → t ≡ get_or ts k t → IsCoefficient t.coefficient
place_coefficient ts k t h l is = subst (λ (x : RemTerm). IsCoefficient x.coefficient) (sym is) (remainder_at ts k t h l).0

pub within_step : (b k : ℕ) (row : List ℤ) → Within ((b + k * 2 ^ 31) + 2 ^ 31) row → Within (b + (k + 1) * 2 ^ 31) row
within_step b k row h i d l = let r = h i d l in omega arith

pub within_start : (b : ℕ) (row : List ℤ) → Within b row → Within (b + 0 * 2 ^ 31) row
within_start b row h i d l = let r = h i d l in omega arith

pub within_up : (b m : ℕ) (row : List ℤ) → b ≤ m → Within b row → Within m row
within_up b m row u h i d l = let r = h i d l in omega arith

-- ---- forms

pub few_fields : (f : Form) (ts : List FieldTerm) → IsForm f → plain_fields ts ≡ fields_of f → AreFields 0 (plain_fields ts) × (length ts ≤ 8)
few_fields (form c us rs) ts h e = let fields = subst (AreFields 0) (sym e) h.1 in (fields, (let k = fields_few 0 ts (omega arith) fields in omega arith))

pub sound_places : (f : Form) (ts : List RemTerm) → IsForm f → plain_remainders ts ≡ remainders_of f → AreRemainders (plain_remainders ts)
sound_places (form c us rs) ts h e = subst AreRemainders (sym e) h.2

pub terms_of : (R : List plain.Remainder) (by : ℤ) (f : Form) (ts : List Term) (rs : Remainders) (row : List ℤ) → ts ≡ fields_of f → rs ≡ remainders_of f → add_places R by rs (add_fields by ts row) ≡ add_terms R by f row
terms_of R by (form c us qs) ts rs row e d = λ i. add_places R by (d i) (add_fields by (e i) row)

pub constant_small : (f : Form) → IsForm f → FitsSigned w64 (constant_of f)
constant_small (form c us rs) h = h.0

pub within_zeros : (n : ℕ) → Within 0 (replicate n (pos 0))
within_zeros n = All-replicate (λ z. unsigned_abs z ≤ 0) n (pos 0) (omega arith)

pub over_is : (R : List plain.Remainder) (f g : Form) (d k : ℤ) (row : List ℤ) → k ≡ (constant_of f -ℤ constant_of g) +ℤ d → row ≡ add_terms R (sign true) g (add_terms R (sign false) f (zeros R)) → record { kind = AtLeastZero; constant = k; coefficients = row } ≡ over R f g d
over_is R f g d k row e h = λ i. record { kind = AtLeastZero; constant = e i; coefficients = h i }

pub place_le : (r : plain.Remainder) (R : List plain.Remainder) → place r R ≤ length R
place_le r [] = omega arith
place_le r (s ∷ R) = by (plain.is_same r s) (place_le r R)
  where
    by : (b : Bool) → place r R ≤ length R → cond b 0 (suc (place r R)) ≤ suc (length R)
    by true h = omega arith
    by false h = omega arith

pub coefficient_back : (z : ℤ) → IsCoefficient z → IsCoefficient (to_z w64 (of_z w64 z))
coefficient_back z h = subst IsCoefficient (sym (to_z-of_z w64 z (fits_signed_from_abs w64 z (omega arith)))) h

pub signed_back : (z r : ℤ) (m : Bool) → IsCoefficient z → r ≡ sign m *ℤ to_z w64 (of_z w64 z) → FitsSigned w128 r → to_z w128 (of_z w128 r) ≡ sign m *ℤ z
signed_back z r m h e f = to_z-of_z w128 r f ∙ e ∙ ap (λ y. sign m *ℤ y) (to_z-of_z w64 z (fits_signed_from_abs w64 z (omega arith)))

pub one_row : (row next : List ℤ) (n : ℕ) (a b : ℤ) → next ≡ add_at n a row → a ≡ b → next ≡ add_at n b row
one_row row next n a b e f = e ∙ ap (λ z. add_at n z row) f

pub grown : (b k : ℕ) (start row next : List ℤ) → ((c : ℕ) → Within c start → Within (c + k * 2 ^ 31) row) → ((c : ℕ) → Within c row → Within (c + 2 ^ 31) next) → Within b start → Within (b + (k + 1) * 2 ^ 31) next
grown b k start row next before more h = within_step b k next (more (b + k * 2 ^ 31) (before b h))

pub few_terms : (ts : List FieldTerm) → AreFields 0 (plain_fields ts) → length ts ≤ 8
few_terms ts h = let k = fields_few 0 ts (omega arith) h in omega arith

-- ---- what a remainder is taken of

pub alone_is : (f g : Form) (ks : List ℕ) → g ≡ base_of f → ks ≡ divisors_of f → length ks ≡ 0 → g ≡ f
alone_is f g [] e d l = e ∙ alone_base f (sym d)
alone_is f g (k ∷ ks) e d l = absurd (omega arith)

pub last_is : (R : List plain.Remainder) (f : Form) (i : ℕ) (r : plain.Remainder) (row : List ℤ) → i + 1 ≡ length (divisors_of f) → r ≡ front_remainder i f → plain.add_at (8 + plain.place r R) (pos 1) row ≡ plain.add_terms R (pos 1) f row
last_is R f i r row e is = ap (λ s. plain.add_at (8 + plain.place s R) (pos 1) row) is ∙ ap (λ g. plain.add_terms R (pos 1) g row) (last_part f i 0 e)
