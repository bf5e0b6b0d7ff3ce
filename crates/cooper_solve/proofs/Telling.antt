-- What is told of a system, from what is told after a put.
use Rattle.std.proofs.Common.{◌≡◌, ℕ, suc, ◌+◌, ◌-◌, ◌/◌, ◌<◌, ◌≤◌, ◌⊎◌, inl, inr, ⊎_elim, List, [], ◌∷◌, ◌++◌, map, reverse, take_all, length, length-append, get_or, arith, refl, sym, ap, subst, ◌∙◌, add-one}
use Rattle.std.proofs.Math.IntN.{ℤ, pos, ◌+ℤ◌, ◌*ℤ◌}
use Rattle.std.specs.Prelude.{◌≤ℤ◌, ◌<ℤ◌, unsigned_abs, FitsSigned, IfOk}
use Rattle.std.proofs.Common.{Result, Ok, Err}
use Rattle.std.specs.Int.{w64, w128}
use Rattle.std.specs.List.{All, Contains}
use Rattle.std.proofs.lemmas.Int.{ints}
use Rattle.std.proofs.lemmas.Bool.{cases_lt}
use Rattle.std.proofs.lemmas.List.{map-append, reverse-append, take-append-le, get_or_append_left, get_or_at, get_or_past}
use Rattle.std.proofs.lemmas.List.Elements.{All-contains, All-map}
use Rattle.std.proofs.Math.Nat.{div-le_self}
use Rattle.math_cooper.specs.System.{Condition, Affine, HasWidth, Solves, affine_value, lead, put_all, unit_all, IsSolvable}
use Rattle.math_cooper.specs.Puts as plain
use Rattle.math_cooper.specs.Puts.{Step, IsScale, IsPeriod, IsPut, Absent, Occurs, cut, after, InSystem, OfScale, OfAffine, IsNumber, IsWide, AllFit, Passes128, IsSolution}
use Rattle.math_cooper.proofs.Composition.{passes-put, passes-form, passes-before, passes-system, passes-over, solution-put, fits-before, fits-put, fits-over}
use Rattle.math_cooper.proofs.Steps.{solution_solves, step_complete, over_solvable, cut_width}
use Rattle.cooper_solve.specs.declared.constraint.Direction.{Direction}
use Rattle.cooper_solve.specs.declared.found.Put.{Put}
use Rattle.cooper_solve.specs.declared.found.Solution.{Solution}
use Rattle.cooper_solve.specs.declared.found.Found.{Found}
use Rattle.cooper_solve.specs.declared.found.Found.TheVariants.{Solved, Far, Wide, Unsat}
use Rattle.cooper_solve.specs.Views.{IsPositive, IsSystem, base_form, WideInForm, WideInSystem}
use Rattle.model_chain.specs.Chains.{HasFarValue}
use Rattle.cooper_solve.specs.Told.{put_of, puts_of, IsSolved, IsFarOff, Tells, FarAfter, TellsAfter, AtOffset, NoneBelow, TellsFrom, TellsOver, IsFound, WideBefore, IsStepOf}
use Rattle.cooper_solve.specs.Back.{IsBack}
use Rattle.cooper_solve.specs.Turns.{PassesOver}
use Rattle.cooper_solve.proofs.Stepping.{put_at}

-- ---- puts

pub pushed : (ps qs : List Put) (p : Put) → qs ≡ ps ++ p ∷ [] → puts_of qs ≡ put_of p ∷ puts_of ps
pushed ps qs p e = ap puts_of e ∙ ap reverse (map-append put_of ps (p ∷ [])) ∙ reverse-append (map put_of ps) (put_of p ∷ [])

-- ---- after a put

module _ (i : ℕ) (c : ℤ) (g : Affine) (T : List Condition) (p : Put) (system : IsSystem i T) (back : (ws : List ℤ) → length ws ≡ i → Solves ws T → (x : ℤ) × (affine_value g ws ≡ pos (unsigned_abs c) *ℤ x)) (form : AllFit (OfAffine g)) where
  pub after_wide : (ps qs : List Put) → qs ≡ ps ++ p ∷ [] → Passes128 i T (puts_of ps) → (rs : List plain.Put) × (puts_of qs ≡ put_of p ∷ rs) × (((WideInForm g) × (rs ≡ [])) ⊎ Passes128 i T rs)
  after_wide ps qs e h = (puts_of ps, pushed ps qs p e, inr h)

  still_outside : (vs : List ℤ) (x : ℤ) → HasFarValue vs → HasFarValue (vs ++ x ∷ [])
  still_outside vs x (k, l, n) = ⊎_elim
      (λ within. (k, l, λ f. n (subst (FitsSigned w64) (get_or_append_left vs (x ∷ []) (pos 0) k within) f)))
      (λ past. absurd (n (subst (FitsSigned w64) (sym (get_or_past vs k (pos 0) past)) (omega (arith, ints)))))
      (cases_lt k (length vs))

  pub after_far : (ps qs : List Put) → qs ≡ ps ++ p ∷ [] → IsFarOff i T (puts_of ps) → (rs : List plain.Put) × (puts_of qs ≡ put_of p ∷ rs) × FarAfter i (unsigned_abs c) g T rs
  after_far ps qs e h =
      let r = solution_solves i T (puts_of ps) h.values system.0 h.is in
      let x = back h.values r.0 r.1 in
      (puts_of ps, pushed ps qs p e, record { values = h.values; own = x.0; is = h.is; back = x.1; outside = still_outside h.values x.0 h.outside; form_fits = form; fits = h.fits })

  pub kept_length : (s : Solution) → IsSolved i T (puts_of s.puts.items) s.values.items → i < 8 → length s.values.items ≡ i
  kept_length s h l =
      let r = solution_solves i T (puts_of s.puts.items) h.values system.0 h.is in
      ap length (h.shown ∙ take_all 8 h.values (let q = r.0 in omega arith)) ∙ r.0

  signed : pos 0 <ℤ c → pos (unsigned_abs c) ≡ c
  signed h = omega (arith, ints)

  pub after_back : pos 0 <ℤ c → (s : Solution) (f : Found) → IsSolved i T (puts_of s.puts.items) s.values.items → IsBack s p g c i f → TellsAfter i (unsigned_abs c) g T (put_of p) f
  after_back some s (Solved t) h (e, inl (far, same)) =
      let r = solution_solves i T (puts_of s.puts.items) h.values system.0 h.is in
      let x = back h.values r.0 r.1 in
      (puts_of s.puts.items, pushed s.puts.items t.puts.items p e, record { values = h.values; own = x.0; is = h.is; back = x.1; shown = same ∙ h.shown ∙ sym (take-append-le 8 h.values (x.0 ∷ []) (let q = r.0 in omega arith)); form_fits = form; fits = h.fits })
  after_back some s (Solved t) h (e, inr (near, (x, fit, is, more))) =
      let r = solution_solves i T (puts_of s.puts.items) h.values system.0 h.is in
      let same : s.values.items ≡ h.values = h.shown ∙ take_all 8 h.values (let q = r.0 in omega arith) in
      let value : affine_value g h.values ≡ pos (unsigned_abs c) *ℤ x = ap (affine_value g) (sym same) ∙ sym is ∙ ap (λ z. z *ℤ x) (sym (signed some)) in
      (puts_of s.puts.items, pushed s.puts.items t.puts.items p e, record { values = h.values; own = x; is = h.is; back = value; shown = more ∙ ap (λ l. l ++ x ∷ []) same ∙ sym (take_all 8 (h.values ++ x ∷ []) (let q = r.0 in omega (arith, length-append h.values (x ∷ [])))); form_fits = form; fits = h.fits })
  after_back some s (Far ps) h (e, near, none) =
      let r = solution_solves i T (puts_of s.puts.items) h.values system.0 h.is in
      let x = back h.values r.0 r.1 in
      let same : s.values.items ≡ h.values = h.shown ∙ take_all 8 h.values (let q = r.0 in omega arith) in
      let outside : HasFarValue (h.values ++ x.0 ∷ []) = (i, near, λ f. none x.0 (subst (FitsSigned w64) (get_or_at h.values x.0 [] (pos 0) i r.0) f) (ap (λ z. z *ℤ x.0) (sym (signed some)) ∙ sym x.1 ∙ ap (affine_value g) (sym same))) in
      (puts_of s.puts.items, pushed s.puts.items ps.items p e, record { values = h.values; own = x.0; is = h.is; back = x.1; outside = outside; form_fits = form; fits = h.fits })
  after_back some s (Wide ps) h b = absurd b
  after_back some s Unsat h b = absurd b

-- ---- the whole step

abs_le : (c n : ℕ) → FitsSigned w128 (pos c) → n ≤ c → FitsSigned w128 (pos n)
abs_le c n f l = omega (arith, ints)

module _ (i : ℕ) (S R : List Condition) (c D : ℤ) (d : Direction) (L : List ℕ) (of : IsStepOf i S c D R d L) (occurs : Occurs i S) (here : AllFit (InSystem S)) (scaled : AllFit (InSystem R)) (fits-c : FitsSigned w128 c) (fits-d : FitsSigned w128 D) where
  fits_scale : AllFit (OfScale i S (unsigned_abs c))
  fits_scale z (inl e) = subst (FitsSigned w128) (sym e) (let p = of.step.scale in omega (arith, ints))
  fits_scale z (inr (inl (b, h, n, e))) = subst (FitsSigned w128) (sym e) (abs_le (unsigned_abs c) (unsigned_abs c / unsigned_abs (lead i b)) (let p = of.step.scale in omega (arith, ints)) (div-le_self (unsigned_abs c) (unsigned_abs (lead i b))))
  fits_scale z (inr (inr n)) = scaled z (subst (λ T. InSystem T z) (sym of.scaled) n)

  period_of : IsPeriod i (unit_all i (unsigned_abs c) S) (unsigned_abs D)
  period_of = subst (λ T. IsPeriod i T (unsigned_abs D)) of.scaled of.is_period

  fits_before : AllFit (plain.BeforePut i S)
  fits_before = fits-before i S (unsigned_abs c) (unsigned_abs D) of.is_scale period_of fits_scale (let p = of.step.period in omega (arith, ints))

  step_at : (k j : ℕ) → Contains L k → j < unsigned_abs D → Step i S (record { variable = i; bound = k; offset = j }) (unsigned_abs c) (unsigned_abs D) (base_form d i R k j)
  step_at k j h l = record {
    is_scale = of.is_scale;
    is_period = period_of;
    names = refl;
    below = l;
    is_put = subst (λ T. IsPut i T (record { variable = i; bound = k; offset = j }) (base_form d i R k j)) of.scaled (put_at i c D R d L of.step k h j);
  }

  after_is : (g : Affine) → put_all i g R ≡ after i (unsigned_abs c) g S
  after_is g = ap (put_all i g) of.scaled

  fits_all : (k j : ℕ) (qs : List plain.Put) → Contains L k → j < unsigned_abs D → AllFit (OfAffine (base_form d i R k j)) → AllFit (IsNumber i (put_all i (base_form d i R k j) R) qs) → AllFit (IsNumber (suc i) S (record { variable = i; bound = k; offset = j } ∷ qs))
  fits_all k j qs h l form deep =
      let g = base_form d i R k j in
      fits-put i S (record { variable = i; bound = k; offset = j }) qs (unsigned_abs c) (unsigned_abs D) g occurs (step_at k j h l) here fits_before form (subst (λ T. AllFit (IsNumber i T qs)) (after_is g) deep)

  solution_of : (k j : ℕ) (qs : List plain.Put) (vs : List ℤ) (x : ℤ) → Contains L k → j < unsigned_abs D → affine_value (base_form d i R k j) vs ≡ pos (unsigned_abs c) *ℤ x → IsSolution i (put_all i (base_form d i R k j) R) qs vs → IsSolution (suc i) S (record { variable = i; bound = k; offset = j } ∷ qs) (vs ++ x ∷ [])
  solution_of k j qs vs x h l e is =
      let g = base_form d i R k j in
      solution-put i S (record { variable = i; bound = k; offset = j }) qs (unsigned_abs c) (unsigned_abs D) g vs x occurs (step_at k j h l) e (subst (λ T. IsSolution i T qs vs) (after_is g) is)

  pub tells_found : (k : ℕ) (f : Found) → Contains L k → IsFound f → AtOffset i (unsigned_abs c) (unsigned_abs D) d R k f → Tells (suc i) S f
  tells_found k (Solved s) h y (j, l, (qs, e, a)) = record {
    values = a.values ++ a.own ∷ [];
    is = subst (λ ps. IsSolution (suc i) S ps (a.values ++ a.own ∷ [])) (sym e) (solution_of k j qs a.values a.own h l a.back a.is);
    shown = a.shown;
    fits = subst (λ ps. AllFit (IsNumber (suc i) S ps)) (sym e) (fits_all k j qs h l a.form_fits a.fits);
  }
  tells_found k (Far ps) h y (j, l, (qs, e, a)) = record {
    values = a.values ++ a.own ∷ [];
    is = subst (λ rs. IsSolution (suc i) S rs (a.values ++ a.own ∷ [])) (sym e) (solution_of k j qs a.values a.own h l a.back a.is);
    outside = a.outside;
    fits = subst (λ rs. AllFit (IsNumber (suc i) S rs)) (sym e) (fits_all k j qs h l a.form_fits a.fits);
  }
  tells_found k (Wide ps) h y (j, l, (qs, e, inl ((z, n, w), none))) = subst (Passes128 (suc i) S) (sym (e ∙ ap (λ rs. record { variable = i; bound = k; offset = j } ∷ rs) none))
      (passes-form i S (record { variable = i; bound = k; offset = j }) (unsigned_abs c) (unsigned_abs D) (base_form d i R k j) occurs (step_at k j h l) z n w)
  tells_found k (Wide ps) h y (j, l, (qs, e, inr deep)) = subst (Passes128 (suc i) S) (sym e)
      (passes-put i S (record { variable = i; bound = k; offset = j }) qs (unsigned_abs c) (unsigned_abs D) (base_form d i R k j) occurs (step_at k j h l) (subst (λ T. Passes128 i T qs) (after_is (base_form d i R k j)) deep))
  tells_found k Unsat h y a = absurd y

  pub tells_none : All (HasWidth (i + 1)) S → All (λ k. NoneBelow i d R k (pos (unsigned_abs D))) L → IsSolvable (suc i) S → ⊥
  tells_none w none s =
      let put = step_complete i S (unsigned_abs c) (unsigned_abs D) w of.is_scale period_of (subst (λ n. IsSolvable n S) (sym (add-one i)) s) in
      let p = put.0 in
      let is : IsPut i R p put.1 = subst (λ T. IsPut i T p put.1) (sym of.scaled) put.2.is_put in
      let r = of.step.bases.covers p put.1 is in
      let some : IsSolvable i (put_all i put.1 R) = subst (λ T. IsSolvable i T) (sym (after_is put.1)) put.3 in
      All-contains (λ k. NoneBelow i d R k (pos (unsigned_abs D))) L r.0 none r.1 p.offset (let b = put.2.below in omega (arith, ints)) (subst (λ g. IsSolvable i (put_all i g R)) r.2 some)

  pub tells_over : All (HasWidth (i + 1)) S → (f : Found) → TellsOver i (unsigned_abs c) (unsigned_abs D) d R L f → Tells (suc i) S f
  tells_over w (Solved s) (k, h, a) = tells_found k (Solved s) h tt a
  tells_over w (Far ps) (k, h, a) = tells_found k (Far ps) h tt a
  tells_over w (Wide ps) (k, h, a) = tells_found k (Wide ps) h tt a
  tells_over w Unsat none = tells_none w none

-- ---- a variable that occurs nowhere

solution_over : (i : ℕ) (S : List Condition) (ps : List plain.Put) (ws : List ℤ) → Absent i S → IsSolution i (cut i S) ps ws → IsSolution (suc i) S ps (ws ++ pos 0 ∷ [])
solution_over i S [] ws a h = (a, ws, refl, h)
solution_over i S (p ∷ ps) ws a h = inl (a, ws, refl, h)

outside_over : (vs : List ℤ) → HasFarValue vs → HasFarValue (vs ++ pos 0 ∷ [])
outside_over vs (k, l, n) = ⊎_elim
    (λ within. (k, l, λ f. n (subst (FitsSigned w64) (get_or_append_left vs (pos 0 ∷ []) (pos 0) k within) f)))
    (λ past. absurd (n (subst (FitsSigned w64) (sym (get_or_past vs k (pos 0) past)) (omega (arith, ints)))))
    (cases_lt k (length vs))

module _ (i : ℕ) (S : List Condition) (w : All (HasWidth (i + 1)) S) (a : Absent i S) (here : AllFit (InSystem S)) where
  pub tells_past : (f g : Found) → Tells i (cut i S) f → PassesOver i f g → Tells (suc i) S g
  tells_past (Solved s) (Solved t) h (e, inl (near, more)) =
      let r = solution_solves i (cut i S) (puts_of s.puts.items) h.values (cut_width i S w) h.is in
      let same : s.values.items ≡ h.values = h.shown ∙ take_all 8 h.values (let q = r.0 in omega arith) in
      record {
        values = h.values ++ pos 0 ∷ [];
        is = subst (λ ps. IsSolution (suc i) S ps (h.values ++ pos 0 ∷ [])) (sym (ap puts_of e)) (solution_over i S (puts_of s.puts.items) h.values a h.is);
        shown = more ∙ ap (λ l. l ++ pos 0 ∷ []) same ∙ sym (take_all 8 (h.values ++ pos 0 ∷ []) (let q = r.0 in omega (arith, length-append h.values (pos 0 ∷ []))));
        fits = subst (λ ps. AllFit (IsNumber (suc i) S ps)) (sym (ap puts_of e)) (fits-over i S (puts_of s.puts.items) a here h.fits);
      }
  tells_past (Solved s) (Solved t) h (e, inr (far, same)) =
      let r = solution_solves i (cut i S) (puts_of s.puts.items) h.values (cut_width i S w) h.is in
      record {
        values = h.values ++ pos 0 ∷ [];
        is = subst (λ ps. IsSolution (suc i) S ps (h.values ++ pos 0 ∷ [])) (sym (ap puts_of e)) (solution_over i S (puts_of s.puts.items) h.values a h.is);
        shown = same ∙ h.shown ∙ sym (take-append-le 8 h.values (pos 0 ∷ []) (let q = r.0 in omega arith));
        fits = subst (λ ps. AllFit (IsNumber (suc i) S ps)) (sym (ap puts_of e)) (fits-over i S (puts_of s.puts.items) a here h.fits);
      }
  tells_past (Solved s) (Far ps) h o = absurd o
  tells_past (Solved s) (Wide ps) h o = absurd o
  tells_past (Solved s) Unsat h o = absurd o
  tells_past (Far ps) g h o = subst (Tells (suc i) S) (sym o) (record {
    values = h.values ++ pos 0 ∷ [];
    is = solution_over i S (puts_of ps.items) h.values a h.is;
    outside = outside_over h.values h.outside;
    fits = fits-over i S (puts_of ps.items) a here h.fits;
  })
  tells_past (Wide ps) g h o = subst (Tells (suc i) S) (sym o) (passes-over i S (puts_of ps.items) a h)
  tells_past Unsat g h o = subst (Tells (suc i) S) (sym o) (λ s. h (over_solvable i S a (subst (λ n. IsSolvable n S) (sym (add-one i)) s)))

-- ---- the ends

pub tells_end : (S : List Condition) (us : List ℤ) (ps : List Put) → us ≡ [] → ps ≡ [] → AllFit (InSystem S) → Solves [] S → IsSolved 0 S (puts_of ps) us
tells_end S us ps eu ep fits h = record {
  values = [];
  is = subst (λ qs. IsSolution 0 S qs []) (sym (ap puts_of ep)) (refl, h);
  shown = eu;
  fits = subst (λ qs. AllFit (IsNumber 0 S qs)) (sym (ap puts_of ep)) fits;
}

pub tells_unmet : (S : List Condition) → (Solves [] S → ⊥) → IsSolvable 0 S → ⊥
tells_unmet S n ([], l, s) = n s
tells_unmet S n (v ∷ vs, l, s) = absurd (omega arith)

pub tells_before : (i : ℕ) (S : List Condition) (ps : List Put) → ps ≡ [] → Occurs i S → WideBefore i S → Passes128 (suc i) S (puts_of ps)
tells_before i S ps e o (c, scale, (z, n, w)) = subst (λ qs. Passes128 (suc i) S (puts_of qs)) (sym e) (passes-before i S z (o, c, scale, n) w)

-- ---- one offset

plain_put : (i k : ℕ) (o : ℤ) (p : Put) → p.variable ≡ i → p.bound ≡ k → p.offset ≡ o → put_of p ≡ record { variable = i; bound = k; offset = unsigned_abs o }
plain_put i k o p ev eb eo = λ t. record { variable = ev t; bound = eb t; offset = unsigned_abs (eo t) }

pub offset_below : (o D : ℤ) → pos 0 ≤ℤ o → o <ℤ D → unsigned_abs o < unsigned_abs D
offset_below o D lo hi = omega (arith, ints)

-- a number of the put is too wide
pub turn_form : (i k : ℕ) (g : Affine) (T : List Condition) (o : ℤ) (p : Put) (ps : List Put) → p.variable ≡ i → p.bound ≡ k → p.offset ≡ o → ps ≡ p ∷ [] → WideInForm g → (qs : List plain.Put) × (puts_of ps ≡ record { variable = i; bound = k; offset = unsigned_abs o } ∷ qs) × (((WideInForm g) × (qs ≡ [])) ⊎ Passes128 i T qs)
turn_form i k g T o p ps ev eb eo e w = ([], ap puts_of e ∙ ap (λ q. q ∷ []) (plain_put i k o p ev eb eo), inl (w, refl))

pub turn_system : (i k : ℕ) (g : Affine) (T : List Condition) (o : ℤ) (p : Put) (ps : List Put) → p.variable ≡ i → p.bound ≡ k → p.offset ≡ o → ps ≡ p ∷ [] → WideInSystem T → (qs : List plain.Put) × (puts_of ps ≡ record { variable = i; bound = k; offset = unsigned_abs o } ∷ qs) × (((WideInForm g) × (qs ≡ [])) ⊎ Passes128 i T qs)
turn_system i k g T o p ps ev eb eo e (z, n, w) = ([], ap puts_of e ∙ ap (λ q. q ∷ []) (plain_put i k o p ev eb eo), inr (passes-system i T [] z n w))

pub turn_found : (i k : ℕ) (c D : ℤ) (d : Direction) (R T : List Condition) (g : Affine) (o : ℤ) (p : Put) (f : Found) → pos 0 ≤ℤ o → o <ℤ D → p.variable ≡ i → p.bound ≡ k → p.offset ≡ o → g ≡ base_form d i R k (unsigned_abs o) → T ≡ put_all i g R → TellsAfter i (unsigned_abs c) g T (put_of p) f → AtOffset i (unsigned_abs c) (unsigned_abs D) d R k f
turn_found i k c D d R T g o p f lo hi ev eb eo eg et h =
    let form = base_form d i R k (unsigned_abs o) in (
      unsigned_abs o,
      offset_below o D lo hi,
      subst (λ q. TellsAfter i (unsigned_abs c) form (put_all i form R) q f) (plain_put i k o p ev eb eo)
          (subst (λ x. TellsAfter i (unsigned_abs c) x (put_all i x R) (put_of p) f) eg (subst (λ U. TellsAfter i (unsigned_abs c) g U (put_of p) f) et h)),
    )

pub one_skipped : (i k : ℕ) (d : Direction) (R T : List Condition) (g : Affine) (o : ℤ) → g ≡ base_form d i R k (unsigned_abs o) → T ≡ put_all i g R → (IsSolvable i T → ⊥) → (s : ℕ) → pos s <ℤ pos 1 → IsSolvable i (put_all i (base_form d i R k (unsigned_abs o + s)) R) → ⊥
one_skipped i k d R T g o eg et none s l h =
    let z : unsigned_abs o + s ≡ unsigned_abs o = omega (arith, ints) in
    none (subst (IsSolvable i) (sym et) (subst (λ x. IsSolvable i (put_all i x R)) (ap (base_form d i R k) z ∙ sym eg) h))

-- ---- offsets in a row

pub none_start : (i k : ℕ) (d : Direction) (R : List Condition) → NoneBelow i d R k (pos 0)
none_start i k d R j l = absurd (omega (arith, ints))

pub none_more : (i k : ℕ) (d : Direction) (R : List Condition) (o n : ℤ) → pos 0 ≤ℤ o → NoneBelow i d R k o → ((s : ℕ) → pos s <ℤ n → IsSolvable i (put_all i (base_form d i R k (unsigned_abs o + s)) R) → ⊥) → NoneBelow i d R k (o +ℤ n)
none_more i k d R o n lo before from j l h = ⊎_elim
    (λ low. before j (omega (arith, ints)) h)
    (λ high.
    let e : j ≡ unsigned_abs o + (j - unsigned_abs o) = omega arith in
    from (j - unsigned_abs o) (omega (arith, ints)) (subst (λ m. IsSolvable i (put_all i (base_form d i R k m) R)) e h))
    (cases_lt j (unsigned_abs o))

-- ---- what is found isn't that there is none

pub found_of : (f : Found) → (f ≡ Unsat → ⊥) → IsFound f
found_of (Solved s) n = tt
found_of (Far ps) n = tt
found_of (Wide ps) n = tt
found_of Unsat n = absurd (n refl)

pub over_of : (i c D : ℕ) (d : Direction) (R : List Condition) (L : List ℕ) (k : ℕ) (f : Found) → (f ≡ Unsat → ⊥) → Contains L k → TellsFrom i c D d R k f → TellsOver i c D d R L f
over_of i c D d R L k (Solved s) n h a = (k, h, a)
over_of i c D d R L k (Far ps) n h a = (k, h, a)
over_of i c D d R L k (Wide ps) n h a = (k, h, a)
over_of i c D d R L k Unsat n h a = absurd (n refl)

pub from_of : (i c D : ℕ) (d : Direction) (R : List Condition) (k : ℕ) (f : Found) → IsFound f → AtOffset i c D d R k f → TellsFrom i c D d R k f
from_of i c D d R k (Solved s) y a = a
from_of i c D d R k (Far ps) y a = a
from_of i c D d R k (Wide ps) y a = a
from_of i c D d R k Unsat y a = absurd y

-- ---- one variable less

cut_positive : (i : ℕ) (c : Condition) → IsPositive c → IsPositive (plain.cut_one i c)
cut_positive i c h = h

pub cut_system : (i : ℕ) (S : List Condition) → IsSystem (i + 1) S → IsSystem i (cut i S)
cut_system i S s = (cut_width i S s.0, All-map IsPositive (plain.cut_one i) S (λ k d l. cut_positive i (get_or S k d) (s.1 k d l)))

pub if_ok_map : {A E : Type 0} (r : Result A E) (P Q : A → Type 0) → ((x : A) → P x → Q x) → IfOk r P → IfOk r Q
if_ok_map (Ok x) P Q f h = f x h
if_ok_map (Err e) P Q f h = h

pub counted : (i n : ℕ) (S : List Condition) (f : Found) → suc i ≡ n → Tells (suc i) S f → Tells n S f
counted i n S f e h = subst (λ m. Tells m S f) e h
