-- A deeper chain with a choice in front.
use Rattle.std.proofs.Common.{◌≡◌, ℕ, zero, suc, ◌⊎◌, inl, inr, ⊎_elim, List, [], ◌∷◌, ◌++◌, length, arith, refl, ap, sym, ◌∙◌, subst, get_or, ◌<◌, ◌≤◌, ◌*◌, ◌/◌}
use Rattle.std.proofs.Math.IntN.{ℤ, pos, negsuc, ◌*ℤ◌}
use Rattle.std.specs.List.{All, Contains}
use Rattle.std.specs.Prelude.{FitsSigned}
use Rattle.std.specs.Int.{w128}
use Rattle.math_cooper.specs.Line.{IsMultiple, Kind, AtLeastZero, DividedBy}
use Rattle.std.proofs.lemmas.Int.{ints}
use Rattle.std.specs.Prelude.{unsigned_abs}
use Rattle.std.specs.Int.{◌∣◌}
use Rattle.std.proofs.Math.Nat.{div-mul_cancel, one-dvd, pos_of_dvd_of_pos, mul-le-mul, dvd_trans, dvd-mul_right, dvd-mul_left}
use Rattle.std.proofs.lemmas.Nat.Gcd.{le_of_dvd, dvd_refl}
use Rattle.math_int.proofs.Lcms.{lcm_is, gcd_some, gcd_by}
use Rattle.std.proofs.lemmas.List.Elements.{All-contains, All-cons, All-head, All-tail, All-nil, Contains-append_right}
use Rattle.math_cooper.specs.System.{Condition, Affine, affine_value, unit_all, low_form, high_form, IsLowAt, IsHighAt, IsCommonAt, RepeatsAt, lead}
use Rattle.math_cooper.specs.Puts.{Put, Least, IsScale, IsPeriod, NoneLow, NoneHigh, IsAt, IsPut, Step, after, Absent, Occurs, cut, InSystem, OfScale, OfAffine, BeforePut, IsNumber, IsWide, AllFit, Passes128, IsSolution}

-- the deeper chain passes: so does the one with the put in front
pub passes-put : (i : ℕ) (S : List Condition) (p : Put) (ps : List Put) (c D : ℕ) (g : Affine) → Occurs i S → Step i S p c D g → Passes128 i (after i c g S) ps → Passes128 (suc i) S (p ∷ ps)
passes-put i S p ps c D g o s (z, n, w) = (z, inr (inr (inr (o, c, D, g, s, inr n))), w)

-- a number of the put is too wide
pub passes-form : (i : ℕ) (S : List Condition) (p : Put) (c D : ℕ) (g : Affine) → Occurs i S → Step i S p c D g → (z : ℤ) → OfAffine g z → IsWide z → Passes128 (suc i) S (p ∷ [])
passes-form i S p c D g o s z n w = (z, inr (inr (inr (o, c, D, g, s, inl n))), w)

-- c, a multiplier, a number of the system with x', or D is too wide: no choice is needed
pub passes-before : (i : ℕ) (S : List Condition) (z : ℤ) → BeforePut i S z → IsWide z → Passes128 (suc i) S []
passes-before i S z n w = (z, inr (inr n), w)

-- a number of the system itself
pub passes-system : (n : ℕ) (S : List Condition) (ps : List Put) (z : ℤ) → InSystem S z → IsWide z → Passes128 n S ps
passes-system zero S ps z n w = (z, n, w)
passes-system (suc i) S [] z n w = (z, inl n, w)
passes-system (suc i) S (p ∷ ps) z n w = (z, inl n, w)

-- a variable that occurs nowhere is passed over
pub passes-over : (i : ℕ) (S : List Condition) (ps : List Put) → Absent i S → Passes128 i (cut i S) ps → Passes128 (suc i) S ps
passes-over i S [] a (z, n, w) = (z, inr (inl (a, n)), w)
passes-over i S (p ∷ ps) a (z, n, w) = (z, inr (inl (a, n)), w)

pub solution-put : (i : ℕ) (S : List Condition) (p : Put) (ps : List Put) (c D : ℕ) (g : Affine) (ws : List ℤ) (x : ℤ) → Occurs i S → Step i S p c D g → affine_value g ws ≡ pos c *ℤ x → IsSolution i (after i c g S) ps ws → IsSolution (suc i) S (p ∷ ps) (ws ++ x ∷ [])
solution-put i S p ps c D g ws x o s e h = inr (o, c, D, g, s, ws, x, refl, e, h)

-- ---- a step is the only one of its put

pub least_once : (P : ℕ → Type 0) (c d : ℕ) → Least P c → Least P d → c ≡ d
least_once P c d h k = let a = h.2 d k.0 k.1 in let b = k.2 c h.0 h.1 in omega arith

low_no : (i : ℕ) (S : List Condition) (k : ℕ) (b : Condition) → IsAt S k b → IsLowAt i b → NoneLow i S → ⊥
low_no i S k b at l none = none k b at.0 (subst (IsLowAt i) (sym at.1) l)

high_no : (i : ℕ) (S : List Condition) (k : ℕ) (b : Condition) → IsAt S k b → IsHighAt i b → NoneHigh i S → ⊥
high_no i S k b at l none = none k b at.0 (subst (IsHighAt i) (sym at.1) l)

any_default : {A : Type 0} (L : List A) (k : ℕ) (x y : A) → k < length L → get_or L k x ≡ get_or L k y
any_default [] k x y h = absurd (omega arith)
any_default (z ∷ L) zero x y h = refl
any_default (z ∷ L) (suc k) x y h = any_default L k x y (omega arith)

at_once : (S : List Condition) (k : ℕ) (a b : Condition) → IsAt S k a → IsAt S k b → a ≡ b
at_once S k a b h l = sym h.1 ∙ any_default S k a b h.0 ∙ l.1

pub put_once : (i : ℕ) (S : List Condition) (p : Put) (g h : Affine) → IsPut i S p g → IsPut i S p h → g ≡ h
put_once i S p g h (inl (b, at, l, e)) (inl (d, at2, l2, f)) = e ∙ ap (λ x. low_form i x p.offset) (at_once S p.bound b d at at2) ∙ sym f
put_once i S p g h (inl (b, at, l, e)) (inr (inl (n, d, at2, l2, f))) = absurd (low_no i S p.bound b at l n)
put_once i S p g h (inl (b, at, l, e)) (inr (inr (n, m, e2, f2))) = absurd (low_no i S p.bound b at l n)
put_once i S p g h (inr (inl (n, d, at2, l2, f))) (inl (b, at, l, e)) = absurd (low_no i S p.bound b at l n)
put_once i S p g h (inr (inr (n, m, e2, f2))) (inl (b, at, l, e)) = absurd (low_no i S p.bound b at l n)
put_once i S p g h (inr (inl (n, b, at, l, e))) (inr (inl (n2, d, at2, l2, f))) = e ∙ ap (λ x. high_form i x p.offset) (at_once S p.bound b d at at2) ∙ sym f
put_once i S p g h (inr (inl (n, b, at, l, e))) (inr (inr (n2, m, e2, f2))) = absurd (high_no i S p.bound b at l m)
put_once i S p g h (inr (inr (n2, m, e2, f2))) (inr (inl (n, b, at, l, e))) = absurd (high_no i S p.bound b at l m)
put_once i S p g h (inr (inr (n, m, e, f))) (inr (inr (n2, m2, e2, f2))) = f ∙ sym f2

scale_once : (i : ℕ) (S : List Condition) (c d : ℕ) → IsScale i S c → IsScale i S d → c ≡ d
scale_once i S c d = least_once (λ m. All (IsCommonAt i m) S) c d

period_once : (i : ℕ) (S : List Condition) (c d : ℕ) → IsPeriod i S c → IsPeriod i S d → c ≡ d
period_once i S c d = least_once (λ m. All (RepeatsAt i m) S) c d

form_once : (i : ℕ) (S : List Condition) (p : Put) (d c E D : ℕ) (f g : Affine) → Step i S p d E f → Step i S p c D g → f ≡ g
form_once i S p d c E D f g t s = put_once i (unit_all i c S) p f g (subst (λ x. IsPut i (unit_all i x S) p f) (scale_once i S d c t.is_scale s.is_scale) t.is_put) s.is_put

-- ---- a chain all of whose numbers fit

never_both : (i : ℕ) (S : List Condition) → Absent i S → Occurs i S → ⊥
never_both i S a o = o.2 (All-contains (λ c. lead i c ≡ pos 0) S o.0 a o.1)

-- what a step has before its put fits
pub fits-before : (i : ℕ) (S : List Condition) (c D : ℕ) → IsScale i S c → IsPeriod i (unit_all i c S) D → AllFit (OfScale i S c) → FitsSigned w128 (pos D) → AllFit (BeforePut i S)
fits-before i S c D hc hd scale period z (o, d, h, inl n) = scale z (subst (λ x. OfScale i S x z) (scale_once i S d c h hc) n)
fits-before i S c D hc hd scale period z (o, d, h, inr (E, k, e)) =
    subst (FitsSigned w128) (sym (e ∙ ap pos (period_once i (unit_all i c S) E D (subst (λ x. IsPeriod i (unit_all i x S) E) (scale_once i S d c h hc) k) hd))) period

pub fits-put : (i : ℕ) (S : List Condition) (p : Put) (ps : List Put) (c D : ℕ) (g : Affine) → Occurs i S → Step i S p c D g → AllFit (InSystem S) → AllFit (BeforePut i S) → AllFit (OfAffine g) → AllFit (IsNumber i (after i c g S) ps) → AllFit (IsNumber (suc i) S (p ∷ ps))
fits-put i S p ps c D g o s here before form deep z (inl n) = here z n
fits-put i S p ps c D g o s here before form deep z (inr (inl (a, n))) = absurd (never_both i S a o)
fits-put i S p ps c D g o s here before form deep z (inr (inr (inl n))) = before z n
fits-put i S p ps c D g o s here before form deep z (inr (inr (inr (o2, d, E, f, t, inl n)))) =
    form z (subst (λ x. OfAffine x z) (form_once i S p d c E D f g t s) n)
fits-put i S p ps c D g o s here before form deep z (inr (inr (inr (o2, d, E, f, t, inr n)))) =
    deep z (subst (λ x. IsNumber i (after i x g S) ps z) (scale_once i S d c t.is_scale s.is_scale) (subst (λ x. IsNumber i (after i d x S) ps z) (form_once i S p d c E D f g t s) n))

pub fits-over : (i : ℕ) (S : List Condition) (ps : List Put) → Absent i S → AllFit (InSystem S) → AllFit (IsNumber i (cut i S) ps) → AllFit (IsNumber (suc i) S ps)
fits-over i S [] a here deep z (inl n) = here z n
fits-over i S [] a here deep z (inr (inl (a2, n))) = deep z n
fits-over i S [] a here deep z (inr (inr (o, d, h, n))) = absurd (never_both i S a o)
fits-over i S (p ∷ ps) a here deep z (inl n) = here z n
fits-over i S (p ∷ ps) a here deep z (inr (inl (a2, n))) = deep z n
fits-over i S (p ∷ ps) a here deep z (inr (inr (inl (o, d, h, n)))) = absurd (never_both i S a o)
fits-over i S (p ∷ ps) a here deep z (inr (inr (inr (o, d, E, f, t, n)))) = absurd (never_both i S a o)

-- ---- the least common multiple exists, and a partial one is at most the whole

-- b tells Q: the multiples of b are the numbers with Q
pub record Tells (Q : ℕ → Type 0) (b : ℕ) : Type 0 where
  pub some : 0 < b
  pub to : (m : ℕ) → b ∣ m → Q m
  pub from : (m : ℕ) → Q m → b ∣ m

pub by_times : (b c : ℕ) → 0 < b → 0 < c → 0 < b * c
by_times b c p q = let x : 1 ≤ b = omega arith in let y : 1 ≤ c = omega arith in let m = mul-le-mul x y in omega arith

pub both : (Q : Condition → ℕ → Type 0) (d : Condition) (S : List Condition) (b c : ℕ) → Tells (Q d) b → Tells (λ m. All (λ e. Q e m) S) c → (l : ℕ) × Tells (λ m. All (λ e. Q e m) (d ∷ S)) l
both Q d S b c t u =
    let g = gcd_by (suc c) b c (omega arith) in
    let l = lcm_is b c g.0 (gcd_some b c g.0 (λ e. let p = t.some in omega arith) g.1) g.1 in
    let v = b / g.0 * c in (
      v,
      record {
        some = pos_of_dvd_of_pos (l.2 (b * c) (dvd-mul_right b c) (dvd-mul_left c b)) (by_times b c t.some u.some);
        to = λ m h. All-cons (λ e. Q e m) d S (t.to m (dvd_trans b l.0 h)) (u.to m (dvd_trans c l.1 h));
        from = λ m h. l.2 m (t.from m (All-head (λ e. Q e m) d S h)) (u.from m (All-tail (λ e. Q e m) d S h));
      },
    )

pub least_exists : (Q : Condition → ℕ → Type 0) (S : List Condition) → ((d : Condition) → Contains S d → (b : ℕ) × Tells (Q d) b) → (c : ℕ) × Tells (λ m. All (λ e. Q e m) S) c
least_exists Q [] f = (1, record { some = omega arith; to = λ m h. All-nil (λ e. Q e m); from = λ m h. one-dvd m })
least_exists Q (d ∷ S) f =
    let r = least_exists Q S (λ e h. f e (Contains-append_right (d ∷ []) S e h)) in
    let b = f d (0, omega arith, refl) in
    both Q d S b.0 r.0 b.1 r.1

pub least_of : (P : ℕ → Type 0) (c : ℕ) → Tells P c → Least P c
least_of P c t = (t.some, t.to c (dvd_refl c), λ m p h. le_of_dvd p (t.from m h))

pub dvd_of : (m z : ℕ) → IsMultiple m z → m ∣ z
dvd_of m z h = subst (λ n. m ∣ n) (sym h.is) (dvd-mul_left m h.factor)

pub multiple_of : (m z : ℕ) → 0 < m → m ∣ z → IsMultiple m z
multiple_of m z p h = record { factor = z / m; is = sym (div-mul_cancel m h) }

-- the multiples of the coefficient, where the constraint has variable i, else all
pub scale_tells : (i : ℕ) (d : Condition) → (b : ℕ) × Tells (λ m. IsCommonAt i m d) b
scale_tells i d = by (lead i d) refl
  where
    by : (z : ℤ) → lead i d ≡ z → (b : ℕ) × Tells (λ m. IsCommonAt i m d) b
    by (pos zero) e = (1, record { some = omega arith; to = λ m h. inl e; from = λ m h. one-dvd m })
    by (pos (suc n)) e = let a : unsigned_abs (lead i d) ≡ suc n = ap unsigned_abs e in (
      suc n,
      record {
        some = omega arith;
        to = λ m h. inr (subst (λ k. IsMultiple k m) (sym a) (multiple_of (suc n) m (omega arith) h));
        from = λ m h. ⊎_elim (λ z. let q = sym z ∙ e in absurd (omega (arith, ints))) (λ k. dvd_of (suc n) m (subst (λ j. IsMultiple j m) a k)) h;
      },
    )
    by (negsuc n) e = let a : unsigned_abs (lead i d) ≡ suc n = ap unsigned_abs e in (
      suc n,
      record {
        some = omega arith;
        to = λ m h. inr (subst (λ k. IsMultiple k m) (sym a) (multiple_of (suc n) m (omega arith) h));
        from = λ m h. ⊎_elim (λ z. let q = sym z ∙ e in absurd (omega (arith, ints))) (λ k. dvd_of (suc n) m (subst (λ j. IsMultiple j m) a k)) h;
      },
    )

pub scale_exists : (i : ℕ) (S : List Condition) → (c : ℕ) × IsScale i S c
scale_exists i S = let r = least_exists (λ d m. IsCommonAt i m d) S (λ d h. scale_tells i d) in (r.0, least_of (λ m. All (IsCommonAt i m) S) r.0 r.1)

abbrev pub IsPositive : Condition → Type 0
IsPositive d = (m : ℕ) → d.kind ≡ DividedBy m → 0 < m

pub divided_once : (m n : ℕ) → DividedBy m ≡ DividedBy n → m ≡ n
divided_once m n e = cc

not_divided : (m : ℕ) → AtLeastZero ≡ DividedBy m → ⊥
not_divided m e = cc

-- the multiples of the divisor, where the constraint has one and variable i, else all
pub period_tells : (i : ℕ) (d : Condition) → IsPositive d → (b : ℕ) × Tells (λ m. RepeatsAt i m d) b
period_tells i d pos_d = by d.kind refl (zero_or (lead i d))
  where
    zero_or : (z : ℤ) → (z ≡ pos 0) ⊎ (z ≡ pos 0 → ⊥)
    zero_or (pos zero) = inl refl
    zero_or (pos (suc n)) = inr (λ e. omega (arith, ints))
    zero_or (negsuc n) = inr (λ e. omega (arith, ints))

    by : (k : Kind) → d.kind ≡ k → (lead i d ≡ pos 0) ⊎ (lead i d ≡ pos 0 → ⊥) → (b : ℕ) × Tells (λ m. RepeatsAt i m d) b
    by AtLeastZero e z = (1, record { some = omega arith; to = λ m h n f. absurd (not_divided n (sym e ∙ f)); from = λ m h. one-dvd m })
    by (DividedBy k) e (inl z) = (1, record { some = omega arith; to = λ m h n f. inl z; from = λ m h. one-dvd m })
    by (DividedBy k) e (inr z) = (
      k,
      record {
        some = pos_d k e;
        to = λ m h n f. inr (subst (λ j. IsMultiple j m) (divided_once k n (sym e ∙ f)) (multiple_of k m (pos_d k e) h));
        from = λ m h. ⊎_elim (λ q. absurd (z q)) (λ q. dvd_of k m q) (h k e);
      },
    )

pub period_exists : (i : ℕ) (S : List Condition) → All IsPositive S → (D : ℕ) × IsPeriod i S D
period_exists i S p = let r = least_exists (λ d m. RepeatsAt i m d) S (λ d h. period_tells i d (All-contains IsPositive S d p h)) in (r.0, least_of (λ m. All (RepeatsAt i m) S) r.0 r.1)

-- a least number for less is at most the least number for more
pub partial_least : (P R : ℕ → Type 0) (l c : ℕ) → ((m : ℕ) → R m → P m) → Least P l → Least R c → l ≤ c
partial_least P R l c f h k = h.2 c k.0 (f c k.1)

pub not-passes : (n : ℕ) (S : List Condition) (ps : List Put) → AllFit (IsNumber n S ps) → Passes128 n S ps → ⊥
not-passes n S ps f (z, h, w) = w (f z h)
