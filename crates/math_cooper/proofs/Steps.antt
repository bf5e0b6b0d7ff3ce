-- A step of Cooper's method keeps solutions, both ways.
use Rattle.std.proofs.Common.{◌≡◌, ℕ, zero, suc, ◌+◌, ◌<◌, inl, inr, ⊎_elim, List, [], ◌∷◌, ◌++◌, length, arith, refl, ap, sym, ◌∙◌, subst, add-one, length-append, length-take, get_or}
use Rattle.std.proofs.Math.IntN.{ℤ, pos, ◌*ℤ◌, zero-*ℤ}
use Rattle.std.specs.Prelude.{◌↔◌}
use Rattle.std.specs.List.{All, slice_index_or}
use Rattle.std.proofs.lemmas.Int.{ints}
use Rattle.std.proofs.lemmas.List.Elements.{All-map, All-contains}
use Rattle.math_cooper.specs.Line.{Meets}
use Rattle.math_cooper.specs.System.{Condition, Holds, Solves, IsSolvable, HasWidth, Affine, affine_value, lead, unit_all, put, put_all, low_form, high_form, free_form}
use Rattle.math_cooper.specs.Puts.{Put, IsScale, IsPeriod, IsPut, Step, after, Absent, cut, cut_one, IsSolution}
use Rattle.math_cooper.specs.Laws.{SomePut}
use Rattle.math_cooper.proofs.Systems.{dot-push, put_width, low_length, high_length, free_length}
use Rattle.math_cooper.proofs.Elimination.{all_unmap, put_sound, eliminate, LowPutAt, HighPutAt, FreePutAt, last_of}
use Rattle.math_cooper.proofs.Scaling.{times_cancel, unit_all_out, unit_all_solvable, unit_all_unit, unit_all_width}

-- ---- widths

pub form_length : (i : ℕ) (S : List Condition) (p : Put) (g : Affine) → All (HasWidth (i + 1)) S → IsPut i S p g → length g.coefficients ≡ i
form_length i S p g w (inl (b, at, l, e)) = ap (λ (f : Affine). length f.coefficients) e ∙ low_length i p.offset b (All-contains (HasWidth (i + 1)) S b w (p.bound, at.0, at.1))
form_length i S p g w (inr (inl (n, b, at, l, e))) = ap (λ (f : Affine). length f.coefficients) e ∙ high_length i p.offset b (All-contains (HasWidth (i + 1)) S b w (p.bound, at.0, at.1))
form_length i S p g w (inr (inr (n, m, k, e))) = ap (λ (f : Affine). length f.coefficients) e ∙ free_length i p.offset

pub after_width : (i c : ℕ) (g : Affine) (S : List Condition) → All (HasWidth (i + 1)) S → All (HasWidth i) (after i c g S)
after_width i c g S w = let u = unit_all_width i c S w in All-map (HasWidth i) (put i g) (unit_all i c S) (λ k d l. put_width i g (get_or (unit_all i c S) k d) (u k d l))

pub cut_width : (i : ℕ) (S : List Condition) → All (HasWidth (i + 1)) S → All (HasWidth i) (cut i S)
cut_width i S w = All-map (HasWidth i) (cut_one i) S (λ k d l. let e : length (get_or S k d).coefficients ≡ i + 1 = w k d l in omega (arith, length-take i (get_or S k d).coefficients))

-- ---- a variable that occurs nowhere

absent_value : (i : ℕ) (c : Condition) (ws : List ℤ) (x : ℤ) → length ws ≡ i → lead i c ≡ pos 0 → Holds ws (cut_one i c) → Holds (ws ++ x ∷ []) c
absent_value i c ws x h e k =
    let nought : lead i c *ℤ x ≡ pos 0 = ap (λ a. a *ℤ x) e ∙ zero-*ℤ x in
    subst (Meets c.kind) (omega (arith, ints, dot-push c.coefficients ws i x h, nought)) k

value_absent : (i : ℕ) (c : Condition) (ws : List ℤ) (x : ℤ) → length ws ≡ i → lead i c ≡ pos 0 → Holds (ws ++ x ∷ []) c → Holds ws (cut_one i c)
value_absent i c ws x h e k =
    let nought : lead i c *ℤ x ≡ pos 0 = ap (λ a. a *ℤ x) e ∙ zero-*ℤ x in
    subst (Meets c.kind) (omega (arith, ints, dot-push c.coefficients ws i x h, nought)) k

pub over_out : (i : ℕ) (S : List Condition) (ws : List ℤ) (x : ℤ) → length ws ≡ i → Absent i S → Solves ws (cut i S) → Solves (ws ++ x ∷ []) S
over_out i S ws x h a s k d l = absent_value i (slice_index_or S k d) ws x h (a k d l) (all_unmap (Holds ws) (cut_one i) S s k d l)

pub over_solvable : (i : ℕ) (S : List Condition) → Absent i S → IsSolvable (i + 1) S → IsSolvable i (cut i S)
over_solvable i S a s =
    let r = last_of i s.0 s.1 in
    (r.0, r.2, All-map (Holds r.0) (cut_one i) S (λ k d l. value_absent i (slice_index_or S k d) r.0 r.1 r.2 (a k d l) (subst (λ w. Holds w (slice_index_or S k d)) r.3 (s.2 k d l))))

-- ---- a put

pub back_of : (i : ℕ) (S : List Condition) (p : Put) (c D : ℕ) (g : Affine) (ws : List ℤ) → All (HasWidth (i + 1)) S → Step i S p c D g → length ws ≡ i → Solves ws (after i c g S) → (x : ℤ) × (affine_value g ws ≡ pos c *ℤ x) × Solves (ws ++ x ∷ []) S
back_of i S p c D g ws w s h solves =
    let u = unit_all_width i c S w in
    let wide = put_sound i g ws (unit_all i c S) h (form_length i (unit_all i c S) p g u s.is_put) u solves in
    unit_all_out i c S ws (affine_value g ws) h s.is_scale.0 w s.is_scale.1 wide

pub wider : (n : ℕ) (S : List Condition) → All (HasWidth (suc n)) S → All (HasWidth (n + 1)) S
wider n S = subst (λ m. All (HasWidth m) S) (sym (add-one n))

longer : (i : ℕ) (ws : List ℤ) (x : ℤ) → length ws ≡ i → length (ws ++ x ∷ []) ≡ suc i
longer i ws x h = omega (arith, length-append ws (x ∷ []))

over_both : (i : ℕ) (S : List Condition) (ws vs : List ℤ) → vs ≡ ws ++ pos 0 ∷ [] → Absent i S → (length ws ≡ i) × Solves ws (cut i S) → (length vs ≡ suc i) × Solves vs S
over_both i S ws vs e a r = subst (λ us. (length us ≡ suc i) × Solves us S) (sym e) (longer i ws (pos 0) r.0, over_out i S ws (pos 0) r.0 a r.1)

put_both : (i : ℕ) (S : List Condition) (p : Put) (c D : ℕ) (g : Affine) (ws vs : List ℤ) (x : ℤ) → All (HasWidth (i + 1)) S → Step i S p c D g → vs ≡ ws ++ x ∷ [] → affine_value g ws ≡ pos c *ℤ x → (length ws ≡ i) × Solves ws (after i c g S) → (length vs ≡ suc i) × Solves vs S
put_both i S p c D g ws vs x w s e v r =
    let back = back_of i S p c D g ws w s r.0 r.1 in
    let same : back.0 ≡ x = times_cancel c back.0 x s.is_scale.0 (sym back.1 ∙ v) in
    subst (λ us. (length us ≡ suc i) × Solves us S) (sym e) (longer i ws x r.0, subst (λ y. Solves (ws ++ y ∷ []) S) same back.2)

pub solution_solves : (n : ℕ) (S : List Condition) (ps : List Put) (vs : List ℤ) → All (HasWidth n) S → IsSolution n S ps vs → (length vs ≡ n) × Solves vs S
solution_solves zero S [] vs w (e, s) = subst (λ us. (length us ≡ 0) × Solves us S) (sym e) (refl, s)
solution_solves zero S (p ∷ ps) vs w h = absurd h
solution_solves (suc i) S [] vs w (a, ws, e, h) = over_both i S ws vs e a (solution_solves i (cut i S) [] ws (cut_width i S (wider i S w)) h)
solution_solves (suc i) S (p ∷ ps) vs w (inl (a, ws, e, h)) = over_both i S ws vs e a (solution_solves i (cut i S) (p ∷ ps) ws (cut_width i S (wider i S w)) h)
solution_solves (suc i) S (p ∷ ps) vs w (inr (o, c, D, g, s, ws, x, e, v, h)) = put_both i S p c D g ws vs x (wider i S w) s e v (solution_solves i (after i c g S) ps ws (after_width i c g S (wider i S w)) h)

-- ---- one of the puts

pub step_complete : (i : ℕ) (S : List Condition) (c D : ℕ) → All (HasWidth (i + 1)) S → IsScale i S c → IsPeriod i (unit_all i c S) D → IsSolvable (i + 1) S → SomePut i S c D
step_complete i S c D w scale period s =
    let T = unit_all i c S in
    let make : (p : Put) (g : Affine) → p.variable ≡ i → p.offset < D → IsPut i T p g → IsSolvable i (put_all i g T) → SomePut i S c D =
    λ p g names below is solvable. (p, g, record { is_scale = scale; is_period = period; names = names; below = below; is_put = is }, solvable) in
    ⊎_elim
    (λ (q : LowPutAt i D T). make (record { variable = i; bound = q.in_system.0; offset = q.offset }) (low_form i q.bound q.offset) refl q.below (inl (q.bound, (q.in_system.1, q.in_system.2), q.low, refl)) q.solvable)
    (λ r. ⊎_elim
    (λ (q : HighPutAt i D T). make (record { variable = i; bound = q.in_system.0; offset = q.offset }) (high_form i q.bound q.offset) refl q.below (inr (inl (r.0, q.bound, (q.in_system.1, q.in_system.2), q.high, refl))) q.solvable)
    (λ t. let q : FreePutAt i D T = t.1 in make (record { variable = i; bound = length T; offset = q.offset }) (free_form i q.offset) refl q.below (inr (inr (r.0, t.0, refl, refl))) q.solvable)
    r.1)
    (eliminate i D T period.0 (unit_all_unit i c S w) period.1 (unit_all_width i c S w) (unit_all_solvable i c S scale.0 w scale.1 s))

pub step_sound : (i : ℕ) (S : List Condition) (c D : ℕ) → All (HasWidth (i + 1)) S → SomePut i S c D → IsSolvable (i + 1) S
step_sound i S c D w (p, g, s, (ws, h, solves)) =
    let back = back_of i S p c D g ws w s h solves in
    (ws ++ back.0 ∷ [], omega (arith, length-append ws (back.0 ∷ [])), back.2)

pub step_decides : (i : ℕ) (S : List Condition) (c D : ℕ) → All (HasWidth (suc i)) S → IsScale i S c → IsPeriod i (unit_all i c S) D → IsSolvable (suc i) S ↔ SomePut i S c D
step_decides i S c D w scale period =
    (λ s. step_complete i S c D (wider i S w) scale period (subst (λ n. IsSolvable n S) (sym (add-one i)) s), λ p. subst (λ n. IsSolvable n S) (add-one i) (step_sound i S c D (wider i S w) p))
