-- The first system of literals has a solution over values of the fields exactly where the literals hold there.
use Rattle.std.proofs.Common.{◌≡◌, ℕ, zero, suc, ◌+◌, ◌<◌, ◌≤◌, ⊎_elim, List, [], ◌∷◌, ◌++◌, map, length, length-append, get_or, Bool, true, false, cond, arith, refl, ap, sym, ◌∙◌, subst}
use Rattle.std.proofs.Math.IntN.{ℤ, pos, ◌-ℤ◌}
use Rattle.std.proofs.Math.ListN.{length-map}
use Rattle.std.specs.Prelude.{FitsSigned}
use Rattle.std.specs.Int.{w64}
use Rattle.std.proofs.lemmas.Int.{ints}
use Rattle.std.proofs.lemmas.Bool.{cases_lt}
use Rattle.std.proofs.lemmas.List.{get_or_append_left, get_or-append-add, get_or-map}
use Rattle.std.proofs.lemmas.List.Elements.{All-nil, All-append}
use Rattle.math_cooper.specs.Line.{Divides}
use Rattle.math_cooper.specs.System.{Condition, Holds, Solves, IsSolvable}
use Rattle.model_form.specs.Form.{Form, form, value, modulo}
use Rattle.model_form.specs.Over.{IsOver}
use Rattle.model_form.proofs.Over.{AgreeBelow, value_agree}
use Rattle.model_chain.specs.Literals.{Literal, AreLiteralsOver, Remainder, width, own_side, later_sides, conditions_of, literals_conditions, remainder_conditions, remainders_conditions, bound_conditions, bounds_conditions, field_in, remainders_in}
use Rattle.model_chain.specs.Chains.{least, greatest, first_system, count_variables}
use Rattle.model_chain.specs.Sides.{HoldsOn, HoldWith}
use Rattle.model_chain.proofs.Rows.{IsPlaced, linear_value}
use Rattle.model_chain.proofs.Places.{IsClosed, AreLiteralsPlaced, AreRight, linear_is_value, seen_in-is, none_closed, placed_up}
use Rattle.model_chain.proofs.Conditions.{all_front, all_back, literal_out, literal_in, IsRemainder, remainder_out, remainder_in, bound_out, bound_in, modulo_once, modulo_range, modulo_divides}

-- ---- the new variables have the values of their remainders

-- an inner form is placed among all
placed_wide : (R : List Remainder) (n : ℕ) (f : Form) → n ≤ length R → IsPlaced R n f → IsPlaced R (length R) f
placed_wide R n (form c ts rs) l h = (h.0, placed_up R n (length R) rs l h.1)

module _ (R : List Remainder) (vs : List ℤ) (closed : IsClosed R) where
  wide_at : (p : ℕ) (d : Remainder) → p < length R → IsPlaced R (length R) (get_or R p d).inner
  wide_at p d l = placed_wide R p (get_or R p d).inner (omega arith) (closed p d l)

  pub remainders_out : (n : ℕ) (rs : List Remainder) → n + length rs ≡ width R → ((p : ℕ) (d : Remainder) → p < length rs → IsPlaced R (length R) (get_or rs p d).inner) → Solves vs (remainders_conditions R n rs) → (p : ℕ) (d : Remainder) → p < length rs → IsRemainder R vs (n + p) (get_or rs p d)
  remainders_out n [] e w s p d l = absurd (omega arith)
  remainders_out n (r ∷ rs) e w s zero d l = subst (λ k. IsRemainder R vs k r) (omega arith) (remainder_out R vs n r (omega arith) (w 0 d (omega arith)) (all_front (Holds vs) (remainder_conditions R n r) (remainders_conditions R (suc n) rs) s))
  remainders_out n (r ∷ rs) e w s (suc p) d l = subst (λ k. IsRemainder R vs k (get_or rs p d)) (omega arith)
      (remainders_out (suc n) rs (omega arith) (λ q x m. w (suc q) x (omega arith)) (all_back (Holds vs) (remainder_conditions R n r) (remainders_conditions R (suc n) rs) s) p d (omega arith))

  pub remainders_in' : (n : ℕ) (rs : List Remainder) → n + length rs ≡ width R → ((p : ℕ) (d : Remainder) → p < length rs → IsPlaced R (length R) (get_or rs p d).inner) → ((p : ℕ) (d : Remainder) → p < length rs → IsRemainder R vs (n + p) (get_or rs p d)) → Solves vs (remainders_conditions R n rs)
  remainders_in' n [] e w h = All-nil (Holds vs)
  remainders_in' n (r ∷ rs) e w h = All-append (Holds vs) (remainder_conditions R n r) (remainders_conditions R (suc n) rs)
      (remainder_in R vs n r (omega arith) (w 0 r (omega arith)) (subst (λ k. IsRemainder R vs k r) (omega arith) (h 0 r (omega arith))))
      (remainders_in' (suc n) rs (omega arith) (λ q x m. w (suc q) x (omega arith)) (λ q x m. subst (λ k. IsRemainder R vs k (get_or rs q x)) (omega arith) (h (suc q) x (omega arith))))

  -- the variables of the remainders are right, inner ones first
  pub all_right : ((p : ℕ) (d : Remainder) → p < length R → IsRemainder R vs (8 + p) (get_or R p d)) → (n : ℕ) → n ≤ length R → AreRight R vs n
  all_right h zero l p d less = absurd (omega arith)
  all_right h (suc n) l p d less = ⊎_elim
      (λ before. all_right h n (omega arith) p d before)
      (λ after.
      let e : n ≡ p = omega arith in
      let i = h p d (omega arith) in
      let r = get_or R p d in
      let inner : linear_value R r.inner vs ≡ value r.inner vs = linear_is_value R p r.inner vs (omega arith) (closed p d (omega arith)) (subst (AreRight R vs) e (all_right h n (omega arith))) in
      modulo_once (linear_value R r.inner vs) (get_or vs (8 + p) (pos 0)) r.divisor i.low i.high i.divides ∙ ap (λ z. modulo z r.divisor) inner)
      (cases_lt p n)

  -- where all are right, each variable is a remainder
  pub right_remainders : ((p : ℕ) (d : Remainder) → p < length R → 0 < (get_or R p d).divisor) → AreRight R vs (length R) → (p : ℕ) (d : Remainder) → p < length R → IsRemainder R vs (8 + p) (get_or R p d)
  right_remainders some h p d l =
      let r = get_or R p d in
      let e = h p d l in
      let inner : value r.inner vs ≡ linear_value R r.inner vs = sym (linear_is_value R (length R) r.inner vs (omega arith) (wide_at p d l) h) in
      let range = modulo_range (value r.inner vs) r.divisor (some p d l) in
      let same : linear_value R r.inner vs -ℤ get_or vs (8 + p) (pos 0) ≡ value r.inner vs -ℤ modulo (value r.inner vs) r.divisor = λ i. sym inner i -ℤ e i in
      record {
        low = omega (arith, ints, e, range.0);
        high = omega (arith, ints, e, range.1);
        divides = subst (Divides r.divisor) (sym same) (modulo_divides (value r.inner vs) r.divisor (some p d l));
      }

-- ---- the literals

module _ (R : List Remainder) (vs : List ℤ) (right : AreRight R vs (length R)) where
  is_value : (f : Form) → IsPlaced R (length R) f → linear_value R f vs ≡ value f vs
  is_value f p = linear_is_value R (length R) f vs (omega arith) p right

  pub literals_out : (ls : List Literal) (sides : List Bool) → AreLiteralsPlaced R ls → Solves vs (literals_conditions R ls sides) → HoldWith ls sides vs
  literals_out [] sides p s = tt
  literals_out (l ∷ ls) sides p s =
      let own = conditions_of R l (own_side l sides) in
      let later = literals_conditions R ls (later_sides l sides) in
      let h = literal_out R vs l.compare.relation l.positive (own_side l sides) l.compare.left l.compare.right p.0 p.1 (all_front (Holds vs) own later s) in (
        subst (λ x. HoldsOn l.compare.relation l.positive (own_side l sides) x (value l.compare.right vs)) (is_value l.compare.left p.0) (subst (λ y. HoldsOn l.compare.relation l.positive (own_side l sides) (linear_value R l.compare.left vs) y) (is_value l.compare.right p.1) h),
        literals_out ls (later_sides l sides) p.2 (all_back (Holds vs) own later s),
      )

  pub literals_in : (ls : List Literal) (sides : List Bool) → AreLiteralsPlaced R ls → HoldWith ls sides vs → Solves vs (literals_conditions R ls sides)
  literals_in [] sides p h = All-nil (Holds vs)
  literals_in (l ∷ ls) sides p h =
      let own = conditions_of R l (own_side l sides) in
      let later = literals_conditions R ls (later_sides l sides) in
      let k = subst (λ x. HoldsOn l.compare.relation l.positive (own_side l sides) x (linear_value R l.compare.right vs)) (sym (is_value l.compare.left p.0)) (subst (λ y. HoldsOn l.compare.relation l.positive (own_side l sides) (value l.compare.left vs) y) (sym (is_value l.compare.right p.1)) h.0) in
      All-append (Holds vs) own later (literal_in R vs l.compare.relation l.positive (own_side l sides) l.compare.left l.compare.right p.0 p.1 k) (literals_in ls (later_sides l sides) p.2 h.1)

-- ---- the bounds

-- each field that is in the literals fits 64 bits
abbrev pub OccurringFit : List Literal → List ℤ → Type 0
OccurringFit ls vs = (k : ℕ) → k < 8 → field_in k ls ≡ true → FitsSigned w64 (get_or vs k (pos 0))

module _ (R : List Remainder) (vs : List ℤ) (ls : List Literal) where
  pub bounds_out : (n m : ℕ) → n + m ≡ 8 → Solves vs (bounds_conditions R least greatest ls n m) → (k : ℕ) → n ≤ k → k < 8 → field_in k ls ≡ true → FitsSigned w64 (get_or vs k (pos 0))
  bounds_out n zero e s k low high occurs = absurd (omega arith)
  bounds_out n (suc m) e s k low high occurs =
      let here = cond (field_in n ls) (bound_conditions R least greatest n) [] in
      let later = bounds_conditions R least greatest ls (suc n) m in
      ⊎_elim
      (λ before. let same : n ≡ k = omega arith in by n (field_in n ls) (ap (λ j. field_in j ls) same ∙ occurs) (omega arith) (all_front (Holds vs) here later s) k same)
      (λ after. bounds_out (suc n) m (omega arith) (all_back (Holds vs) here later s) k (omega arith) high occurs)
      (cases_lt k (suc n))
    where
      by : (n : ℕ) (b : Bool) → b ≡ true → n < width R → Solves vs (cond b (bound_conditions R least greatest n) []) → (k : ℕ) → n ≡ k → FitsSigned w64 (get_or vs k (pos 0))
      by n true e l s k same = subst (λ j. FitsSigned w64 (get_or vs j (pos 0))) same (bound_out R vs n l s)
      by n false e l s k same = absurd cc

  pub bounds_in : (n m : ℕ) → n + m ≡ 8 → ((k : ℕ) → k < 8 → FitsSigned w64 (get_or vs k (pos 0))) → Solves vs (bounds_conditions R least greatest ls n m)
  bounds_in n zero e f = All-nil (Holds vs)
  bounds_in n (suc m) e f = All-append (Holds vs) (cond (field_in n ls) (bound_conditions R least greatest n) []) (bounds_conditions R least greatest ls (suc n) m) (by n (field_in n ls) (omega arith) (f n (omega arith))) (bounds_in (suc n) m (omega arith) f)
    where
      by : (n : ℕ) (b : Bool) → n < width R → FitsSigned w64 (get_or vs n (pos 0)) → Solves vs (cond b (bound_conditions R least greatest n) [])
      by n true l h = bound_in R vs n l h
      by n false l h = All-nil (Holds vs)

-- ---- the first system

abbrev pub bounds_if : List Literal → Bool → List Condition
bounds_if ls bounded = cond bounded (bounds_conditions (remainders_in ls) least greatest ls 0 8) []

-- a solution of the first system satisfies the literals, with their sides
pub first_out : (ls : List Literal) (bounded : Bool) (sides : List Bool) (vs : List ℤ) → AreLiteralsOver 8 ls → Solves vs (first_system ls bounded sides) → HoldWith ls sides vs × (bounded ≡ true → OccurringFit ls vs)
first_out ls bounded sides vs over s =
    let R = remainders_in ls in
    let seen = seen_in-is ls [] over none_closed in
    let front = all_front (Holds vs) (literals_conditions R ls sides ++ remainders_conditions R 8 R) (bounds_if ls bounded) s in
    let literals = all_front (Holds vs) (literals_conditions R ls sides) (remainders_conditions R 8 R) front in
    let rest = all_back (Holds vs) (literals_conditions R ls sides) (remainders_conditions R 8 R) front in
    let bounds = all_back (Holds vs) (literals_conditions R ls sides ++ remainders_conditions R 8 R) (bounds_if ls bounded) s in
    let right = all_right R vs seen.closed (remainders_out R vs seen.closed 8 R refl (wide_at R vs seen.closed) rest) (length R) (omega arith) in
    (literals_out R vs right ls sides seen.placed literals, by bounded bounds)
  where
    by : (b : Bool) → Solves vs (bounds_if ls b) → b ≡ true → OccurringFit ls vs
    by true h e k l o = bounds_out (remainders_in ls) vs ls 0 8 refl h k (omega arith) l o
    by false h e k l o = absurd cc

-- ---- the values of the new variables

abbrev pub with_remainders : List Remainder → List ℤ → List ℤ
with_remainders R us = us ++ map (λ r. modulo (value r.inner us) r.divisor) R

pub with_agree : (R : List Remainder) (us : List ℤ) → length us ≡ 8 → AgreeBelow 8 us (with_remainders R us)
with_agree R us e k l = sym (get_or_append_left us (map (λ r. modulo (value r.inner us) r.divisor) R) (pos 0) k (omega arith))

over_of : (R : List Remainder) (n : ℕ) (f : Form) → IsPlaced R n f → IsOver 8 f
over_of R n (form c ts rs) h = h.0

-- with the values of the remainders behind those of the fields, each new variable is right
pub with_right : (R : List Remainder) (us : List ℤ) → length us ≡ 8 → IsClosed R → AreRight R (with_remainders R us) (length R)
with_right R us e closed p d l =
    let f : Remainder → ℤ = λ r. modulo (value r.inner us) r.divisor in
    let at : get_or (us ++ map f R) (8 + p) (pos 0) ≡ get_or (map f R) p (pos 0) = ap (λ n. get_or (us ++ map f R) (n + p) (pos 0)) (sym e) ∙ get_or-append-add us (map f R) p (pos 0) in
    let inner = value_agree 8 (get_or R p d).inner us (with_remainders R us) (with_agree R us e) (over_of R p (get_or R p d).inner (closed p d l)) in
    at ∙ get_or-map f R p d (pos 0) l ∙ ap (λ z. modulo z (get_or R p d).divisor) inner

pub hold_agree : (ls : List Literal) (sides : List Bool) (us vs : List ℤ) → AgreeBelow 8 us vs → AreLiteralsOver 8 ls → HoldWith ls sides us → HoldWith ls sides vs
hold_agree [] sides us vs a o h = tt
hold_agree (l ∷ ls) sides us vs a o h =
    let left = value_agree 8 l.compare.left us vs a o.0 in
    let right = value_agree 8 l.compare.right us vs a o.1 in (
      subst (λ x. HoldsOn l.compare.relation l.positive (own_side l sides) x (value l.compare.right vs)) left (subst (λ y. HoldsOn l.compare.relation l.positive (own_side l sides) (value l.compare.left us) y) right h.0),
      hold_agree ls (later_sides l sides) us vs a o.2 h.1,
    )

-- where the literals hold with their sides, and in bounds if these are asked, the first system has a solution
pub first_in : (ls : List Literal) (bounded : Bool) (sides : List Bool) (us : List ℤ) → AreLiteralsOver 8 ls → ((p : ℕ) (d : Remainder) → p < length (remainders_in ls) → 0 < (get_or (remainders_in ls) p d).divisor) → length us ≡ 8 → HoldWith ls sides us
    → (bounded ≡ true → (k : ℕ) → k < 8 → FitsSigned w64 (get_or us k (pos 0))) → Solves (with_remainders (remainders_in ls) us) (first_system ls bounded sides)
first_in ls bounded sides us over some e h fits =
    let R = remainders_in ls in
    let vs = with_remainders R us in
    let seen = seen_in-is ls [] over none_closed in
    let right = with_right R us e seen.closed in
    let literals = literals_in R vs right ls sides seen.placed (hold_agree ls sides us vs (with_agree R us e) over h) in
    let rest = remainders_in' R vs seen.closed 8 R refl (wide_at R vs seen.closed) (right_remainders R vs seen.closed some right) in
    All-append (Holds vs) (literals_conditions R ls sides ++ remainders_conditions R 8 R) (bounds_if ls bounded) (All-append (Holds vs) (literals_conditions R ls sides) (remainders_conditions R 8 R) literals rest) (by bounded fits)
  where
    by : (b : Bool) → (b ≡ true → (k : ℕ) → k < 8 → FitsSigned w64 (get_or us k (pos 0))) → Solves (with_remainders (remainders_in ls) us) (bounds_if ls b)
    by true f = bounds_in (remainders_in ls) (with_remainders (remainders_in ls) us) ls 0 8 refl (λ k l. subst (FitsSigned w64) (with_agree (remainders_in ls) us e k l) (f refl k l))
    by false f = All-nil (Holds (with_remainders (remainders_in ls) us))

pub first_solvable : (ls : List Literal) (bounded : Bool) (sides : List Bool) (us : List ℤ) → AreLiteralsOver 8 ls → ((p : ℕ) (d : Remainder) → p < length (remainders_in ls) → 0 < (get_or (remainders_in ls) p d).divisor) → length us ≡ 8 → HoldWith ls sides us
    → (bounded ≡ true → (k : ℕ) → k < 8 → FitsSigned w64 (get_or us k (pos 0))) → IsSolvable (count_variables ls) (first_system ls bounded sides)
first_solvable ls bounded sides us over some e h fits =
    let R = remainders_in ls in
    (with_remainders R us, omega (arith, length-append us (map (λ r. modulo (value r.inner us) r.divisor) R), length-map R (λ r. modulo (value r.inner us) r.divisor)), first_in ls bounded sides us over some e h fits)
