-- What the parts of a step give.
use Rattle.std.proofs.Common.{◌≡◌, ℕ, zero, suc, ◌+◌, ◌*◌, ◌/◌, ◌^◌, ◌<◌, ◌≤◌, inl, inr, ⊎_elim, List, [], ◌∷◌, ◌++◌, map, length, get_or, replicate, arith, refl, sym, ap, subst, ◌∙◌}
use Rattle.std.proofs.Math.ListN.{length-replicate}
use Rattle.std.proofs.Math.IntN.{ℤ, pos, negsuc, ◌*ℤ◌}
use Rattle.std.specs.Prelude.{◌<ℤ◌, unsigned_abs}
use Rattle.std.specs.List.{All, Contains}
use Rattle.std.proofs.lemmas.Int.{ints}
use Rattle.std.proofs.Math.Nat.{mul-le-mul}
use Rattle.std.proofs.lemmas.List.Elements.{All-map, All-append, All-cons, All-nil, All-contains, Contains-push}
use Rattle.math_cooper.specs.Line.{Kind, AtLeastZero, DividedBy}
use Rattle.math_cooper.specs.System.{Condition, Affine, HasWidth, Holds, Solves, affine_value, lead, sign, kind_times, times_condition, divides_condition, unit, unit_all, put, put_all, IsCommonAt}
use Rattle.math_cooper.specs.Puts.{IsScale, IsPeriod, IsPut, IsWide}
use Rattle.math_cooper.proofs.Elimination.{put_sound}
use Rattle.math_cooper.proofs.Scaling.{unit_cases, multiplier, not_zero, times_lead, last_is, unit_all_width, divides_out}
use Rattle.math_cooper.proofs.Systems.{put_width}
use Rattle.math_cooper.proofs.Steps.{form_length}
use Rattle.math_cooper.proofs.Composition.{scale_exists, period_exists}
use Rattle.cooper_solve.specs.declared.constraint.Direction.{Direction}
use Rattle.cooper_solve.specs.Views.{IsPositive, IsSystem, IsUnitLead, AreBases, IsBase, base_form, WideInSystem}
use Rattle.cooper_solve.specs.Told.{WideBefore, IsStep, IsStepOf}

-- ---- the scaled system

times_some : (k n : ℕ) → 0 < k → 0 < n → 0 < k * n
times_some k n p q = let x : 1 ≤ k = omega arith in let y : 1 ≤ n = omega arith in let m = mul-le-mul x y in omega arith

kind_positive : (k : ℕ) (d : Kind) → 0 < k → ((m : ℕ) → d ≡ DividedBy m → 0 < m) → (m : ℕ) → kind_times k d ≡ DividedBy m → 0 < m
kind_positive k AtLeastZero p h m e = h m e
kind_positive k (DividedBy n) p h m e = let f : k * n ≡ m = one k n m e in subst (λ x. 0 < x) f (times_some k n p (h n refl))
  where
    one : (k n m : ℕ) → DividedBy (k * n) ≡ DividedBy m → k * n ≡ m
    one k n m e = cc

times_positive : (i k : ℕ) (d : Condition) → 0 < k → IsPositive d → IsPositive (times_condition i k d)
unfolding times_condition
times_positive i k d p h = kind_positive k d.kind p h

unit_positive : (i c : ℕ) (d : Condition) → 0 < c → IsCommonAt i c d → IsPositive d → IsPositive (unit i c d)
unit_positive i c d p common h = unit_cases IsPositive i c d (λ e. h) (λ some. ⊎_elim (λ z. absurd (not_zero (lead i d) z some)) (λ m. times_positive i (c / unsigned_abs (lead i d)) d (multiplier (lead i d) c p some m).0 h) common)

divides_positive : (i c : ℕ) → 0 < c → IsPositive (divides_condition i c)
unfolding divides_condition
divides_positive i c p m e = subst (λ x. 0 < x) (one c m e) p
  where
    one : (c m : ℕ) → DividedBy c ≡ DividedBy m → c ≡ m
    one c m e = cc

pub scaled_system : (i c : ℕ) (S : List Condition) → 0 < c → All (IsCommonAt i c) S → IsSystem (i + 1) S → IsSystem (i + 1) (unit_all i c S)
unfolding unit_all
scaled_system i c S p common s = (
  unit_all_width i c S s.0,
  All-append IsPositive (map (unit i c) S) (divides_condition i c ∷ []) (All-map IsPositive (unit i c) S (λ k d l. unit_positive i c (get_or S k d) p (common k d l) (s.1 k d l)))
      (All-cons IsPositive (divides_condition i c) [] (divides_positive i c p) (All-nil IsPositive)),
)

sign_sign : (a : ℤ) → sign a ≡ sign (sign a)
sign_sign (pos zero) = refl
sign_sign (pos (suc n)) = refl
sign_sign (negsuc n) = refl

unit_lead : (i c : ℕ) (d : Condition) → HasWidth (i + 1) d → IsUnitLead i (unit i c d)
unit_lead i c d w = unit_cases (IsUnitLead i) i c d
    (λ e. e ∙ sym (ap sign e))
    (λ some. let k = c / unsigned_abs (lead i d) in times_lead i k d w ∙ sign_sign (lead i d) ∙ sym (ap sign (times_lead i k d w)))

divides_lead : (i c : ℕ) → IsUnitLead i (divides_condition i c)
unfolding divides_condition
divides_lead i c = let e = last_is (replicate i (pos 0)) (pos 1) i (length-replicate i (pos 0)) in e ∙ sym (ap sign e)

pub scaled_units : (i c : ℕ) (S : List Condition) → All (HasWidth (i + 1)) S → All (IsUnitLead i) (unit_all i c S)
unfolding unit_all
scaled_units i c S w = All-append (IsUnitLead i) (map (unit i c) S) (divides_condition i c ∷ []) (All-map (IsUnitLead i) (unit i c) S (λ k d l. unit_lead i c (get_or S k d) (w k d l)))
    (All-cons (IsUnitLead i) (divides_condition i c) [] (divides_lead i c) (All-nil (IsUnitLead i)))

scaled_divides : (i c : ℕ) (S : List Condition) → Contains (unit_all i c S) (divides_condition i c)
unfolding unit_all
scaled_divides i c S = Contains-push (map (unit i c) S) (divides_condition i c)

pub some_of : (c : ℤ) → pos 0 <ℤ c → 0 < unsigned_abs c
some_of c p = omega (arith, ints)

pub system_of : (i : ℕ) (S R : List Condition) (c : ℤ) → IsSystem (i + 1) S → pos 0 <ℤ c → IsScale i S (unsigned_abs c) → R ≡ unit_all i (unsigned_abs c) S → IsSystem (i + 1) R
system_of i S R c s p scale e = subst (IsSystem (i + 1)) (sym e) (scaled_system i (unsigned_abs c) S scale.0 scale.1 s)

pub step_of : (i : ℕ) (S R : List Condition) (c D : ℤ) (d : Direction) (L : List ℕ) → IsSystem (i + 1) S → pos 0 <ℤ c → IsScale i S (unsigned_abs c) → R ≡ unit_all i (unsigned_abs c) S → pos 0 <ℤ D → IsPeriod i R (unsigned_abs D) → AreBases i R d L → IsStepOf i S c D R d L
step_of i S R c D d L s p scale e q period bases = record {
  is_scale = scale;
  scaled = e;
  is_period = period;
  step = record {
    system = system_of i S R c s p scale e;
    unit = subst (All (IsUnitLead i)) (sym e) (scaled_units i (unsigned_abs c) S s.0);
    scale = p;
    divides = subst (λ T. Contains T (divides_condition i (unsigned_abs c))) (sym e) (scaled_divides i (unsigned_abs c) S);
    period = q;
    bases = bases;
  };
}

-- ---- a number of a step is too wide

big : (n : ℕ) → 2 ^ 127 ≤ n → IsWide (pos n)
big n h f = omega (arith, ints)

pub wide_scale : (i : ℕ) (S : List Condition) → ((c : ℕ) → IsScale i S c → 2 ^ 127 ≤ c) → WideBefore i S
wide_scale i S h = let e = scale_exists i S in (e.0, e.1, (pos e.0, inl (inl refl), big e.0 (h e.0 e.1)))

pub wide_scaled : (i : ℕ) (S : List Condition) (c : ℕ) → IsScale i S c → WideInSystem (unit_all i c S) → WideBefore i S
wide_scaled i S c scale (z, n, w) = (c, scale, (z, inl (inr (inr n)), w))

pub wide_period : (i : ℕ) (S R : List Condition) (c : ℕ) → IsSystem (i + 1) S → IsScale i S c → R ≡ unit_all i c S → ((D : ℕ) → IsPeriod i R D → 2 ^ 127 ≤ D) → WideBefore i S
wide_period i S R c s scale e h =
    let positive = (scaled_system i c S scale.0 scale.1 s).1 in
    let d = period_exists i (unit_all i c S) positive in
    (c, scale, (pos d.0, inr (d.0, d.1, refl), big d.0 (h d.0 (subst (λ T. IsPeriod i T d.0) (sym e) d.1))))

-- ---- a put

module _ (i : ℕ) (c D : ℤ) (R : List Condition) (d : Direction) (L : List ℕ) (step : IsStep i c D R d L) (k : ℕ) (base : Contains L k) where
  pub put_at : (j : ℕ) → IsPut i R (record { variable = i; bound = k; offset = j }) (base_form d i R k j)
  put_at = (All-contains (λ m. IsBase d R m × ((j : ℕ) → IsPut i R (record { variable = i; bound = m; offset = j }) (base_form d i R m j))) L k step.bases.each base).1

  pub base_at : IsBase d R k
  base_at = (All-contains (λ m. IsBase d R m × ((j : ℕ) → IsPut i R (record { variable = i; bound = m; offset = j }) (base_form d i R m j))) L k step.bases.each base).0

  pub form_at : (j : ℕ) → length (base_form d i R k j).coefficients ≡ i
  form_at j = form_length i R (record { variable = i; bound = k; offset = j }) (base_form d i R k j) step.system.0 (put_at j)

put_positive : (i : ℕ) (g : Affine) (c : Condition) → IsPositive c → IsPositive (put i g c)
unfolding put
put_positive i g c h = h

pub put_system : (i : ℕ) (g : Affine) (R : List Condition) → IsSystem (i + 1) R → IsSystem i (put_all i g R)
put_system i g R s = (
  All-map (HasWidth i) (put i g) R (λ k d l. put_width i g (get_or R k d) (s.0 k d l)),
  All-map IsPositive (put i g) R (λ k d l. put_positive i g (get_or R k d) (s.1 k d l)),
)

-- the value of the form is a multiple of c
pub back_from : (i : ℕ) (c : ℕ) (R : List Condition) (g : Affine) → IsSystem (i + 1) R → Contains R (divides_condition i c) → length g.coefficients ≡ i → (ws : List ℤ) → length ws ≡ i → Solves ws (put_all i g R) → (x : ℤ) × (affine_value g ws ≡ pos c *ℤ x)
back_from i c R g s divides len ws h solves =
    let all = put_sound i g ws R h len s.0 solves in
    divides_out i c ws (affine_value g ws) h (All-contains (Holds (ws ++ affine_value g ws ∷ [])) R (divides_condition i c) all divides)
