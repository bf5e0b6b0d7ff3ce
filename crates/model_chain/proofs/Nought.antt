-- A variable that has no coefficient in a system is 0 in each of its solutions by puts.
use Rattle.std.proofs.Common.{◌≡◌, ℕ, zero, suc, ◌+◌, ◌<◌, ◌≤◌, inl, inr, ⊎_elim, List, [], ◌∷◌, ◌++◌, map, length, take, replicate, get_or, arith, refl, ap, ◌∙◌, subst, length-take}
use Rattle.std.proofs.Math.IntN.{ℤ, pos, ◌+ℤ◌, ◌*ℤ◌, neg_ℤ}
use Rattle.std.specs.Prelude.{unsigned_abs, ◌/◌}
use Rattle.std.specs.List.{All}
use Rattle.std.proofs.lemmas.Int.{ints}
use Rattle.std.proofs.lemmas.Bool.{cases_lt}
use Rattle.std.proofs.lemmas.List.{length-map, length-replicate, get_or_append_left, get_or-append-add, get_or-map, get_or-take, get_or-replicate}
use Rattle.std.proofs.lemmas.List.Elements.{All-nil, All-cons, All-append, All-map, All-contains}
use Rattle.math_cooper.specs.System.{Condition, HasWidth, Affine, lead, sign, add_times, put, low_form, high_form, free_form, times_condition, unit, unit_by, unit_all, divides_condition}
use Rattle.math_cooper.specs.Puts.{Put, IsPut, Absent, cut, cut_one, after, IsSolution}
use Rattle.math_cooper.proofs.Scaling.{unit_all_width}
use Rattle.math_cooper.proofs.Steps.{solution_solves, cut_width, after_width, wider}

-- ---- rows

map_nought : (f : ℤ → ℤ) (row : List ℤ) (k : ℕ) → f (pos 0) ≡ pos 0 → k < length row → get_or row k (pos 0) ≡ pos 0 → get_or (map f row) k (pos 0) ≡ pos 0
map_nought f row k z l h = get_or-map f row k (pos 0) (pos 0) l ∙ ap f h ∙ z

sum_nought : (a : ℤ) (f g : List ℤ) (k : ℕ) → k < length f → get_or f k (pos 0) ≡ pos 0 → get_or g k (pos 0) ≡ pos 0 → get_or (add_times a f g) k (pos 0) ≡ pos 0
unfolding add_times
sum_nought a [] g k l h e = absurd (omega arith)
sum_nought a (x ∷ f) [] k l h e = h
sum_nought a (x ∷ f) (y ∷ g) zero l h e = ap (λ z. z +ℤ (a *ℤ y)) h ∙ ap (λ z. pos 0 +ℤ (a *ℤ z)) e ∙ omega (arith, ints)
sum_nought a (x ∷ f) (y ∷ g) (suc k) l h e = sum_nought a f g k (omega arith) h e

-- ---- a step

module _ (i k : ℕ) (low : k < i) where
  taken : (row : List ℤ) → get_or row k (pos 0) ≡ pos 0 → get_or (take i row) k (pos 0) ≡ pos 0
  taken row h = get_or-take i row k (pos 0) low ∙ h

  unit_nought : (c : ℕ) (d : Condition) → HasWidth (i + 1) d → lead k d ≡ pos 0 → lead k (unit i c d) ≡ pos 0
  unfolding times_condition
  unit_nought c d w z = by (unsigned_abs (lead i d))
    where
      by : (a : ℕ) → lead k (unit_by a i c d) ≡ pos 0
      by zero = z
      by (suc a) =
          let row = take i d.coefficients in
          let many : length row ≡ i = let e : length d.coefficients ≡ i + 1 = w in omega (arith, length-take i d.coefficients) in
          let f : ℤ → ℤ = λ x. pos (c / suc a) *ℤ x in
          let len : length (map f row) ≡ length row = length-map row f in
          get_or_append_left (map f row) (sign (lead i d) ∷ []) (pos 0) k (omega arith) ∙ map_nought f row k (omega (arith, ints)) (omega arith) (taken d.coefficients z)

  divides_nought : (c : ℕ) → lead k (divides_condition i c) ≡ pos 0
  unfolding divides_condition
  divides_nought c = get_or_append_left (replicate i (pos 0)) (pos 1 ∷ []) (pos 0) k (let e = length-replicate i (pos 0) in omega arith) ∙ get_or-replicate i k (pos 0) (pos 0) low

  unit_absent : (c : ℕ) (S : List Condition) → All (HasWidth (i + 1)) S → Absent k S → Absent k (unit_all i c S)
  unfolding unit_all
  unit_absent c S w a =
      let P : Condition → Type 0 = λ d. lead k d ≡ pos 0 in
      All-append P (map (unit i c) S) (divides_condition i c ∷ []) (All-map P (unit i c) S (λ j d l. unit_nought c (get_or S j d) (w j d l) (a j d l))) (All-cons P (divides_condition i c) [] (divides_nought c) (All-nil P))

  form_nought : (R : List Condition) (p : Put) (g : Affine) → All (HasWidth (i + 1)) R → Absent k R → IsPut i R p g → get_or g.coefficients k (pos 0) ≡ pos 0
  unfolding low_form high_form free_form
  form_nought R p g w a (inl (b, at, l, e)) =
      let many : length b.coefficients ≡ i + 1 = All-contains (HasWidth (i + 1)) R b w (p.bound, at.0, at.1) in
      let row = take i b.coefficients in
      ap (λ (f : Affine). get_or f.coefficients k (pos 0)) e ∙ map_nought neg_ℤ row k refl (let t = length-take i b.coefficients in omega arith) (taken b.coefficients (All-contains (λ d. lead k d ≡ pos 0) R b a (p.bound, at.0, at.1)))
  form_nought R p g w a (inr (inl (n, b, at, l, e))) =
      ap (λ (f : Affine). get_or f.coefficients k (pos 0)) e ∙ taken b.coefficients (All-contains (λ d. lead k d ≡ pos 0) R b a (p.bound, at.0, at.1))
  form_nought R p g w a (inr (inr (n, m, s, e))) = ap (λ (f : Affine). get_or f.coefficients k (pos 0)) e ∙ get_or-replicate i k (pos 0) (pos 0) low

  put_nought : (g : Affine) (d : Condition) → HasWidth (i + 1) d → get_or g.coefficients k (pos 0) ≡ pos 0 → lead k d ≡ pos 0 → lead k (put i g d) ≡ pos 0
  unfolding put
  put_nought g d w e z = sum_nought (lead i d) (take i d.coefficients) g.coefficients k (let n : length d.coefficients ≡ i + 1 = w in let t = length-take i d.coefficients in omega arith) (taken d.coefficients z) e

  after_absent : (c : ℕ) (g : Affine) (p : Put) (S : List Condition) → All (HasWidth (i + 1)) S → IsPut i (unit_all i c S) p g → Absent k S → Absent k (after i c g S)
  after_absent c g p S w is a =
      let R = unit_all i c S in
      let u = unit_all_width i c S w in
      let b = unit_absent c S w a in
      let e = form_nought R p g u b is in
      All-map (λ d. lead k d ≡ pos 0) (put i g) R (λ j d l. put_nought g (get_or R j d) (u j d l) e (b j d l))

  cut_absent : (S : List Condition) → Absent k S → Absent k (cut i S)
  cut_absent S a = All-map (λ d. lead k d ≡ pos 0) (cut_one i) S (λ j d l. taken (get_or S j d).coefficients (a j d l))

-- ---- a solution

front : (ws vs : List ℤ) (x : ℤ) (i k : ℕ) → vs ≡ ws ++ x ∷ [] → length ws ≡ i → k < i → get_or ws k (pos 0) ≡ pos 0 → get_or vs k (pos 0) ≡ pos 0
front ws vs x i k e many l h = ap (λ us. get_or us k (pos 0)) e ∙ get_or_append_left ws (x ∷ []) (pos 0) k (omega arith) ∙ h

end : (ws vs : List ℤ) (i k : ℕ) → vs ≡ ws ++ pos 0 ∷ [] → length ws ≡ i → k ≡ i → get_or vs k (pos 0) ≡ pos 0
end ws vs i k e many is =
    ap (λ us. get_or us k (pos 0)) e ∙ ap (λ n. get_or (ws ++ pos 0 ∷ []) n (pos 0)) (let t : k ≡ length ws + 0 = omega (arith, is, many) in t) ∙ get_or-append-add ws (pos 0 ∷ []) 0 (pos 0)

pub nought : (n : ℕ) (S : List Condition) (ps : List Put) (vs : List ℤ) (k : ℕ) → k < n → All (HasWidth n) S → Absent k S → IsSolution n S ps vs → get_or vs k (pos 0) ≡ pos 0
nought zero S ps vs k l w a h = absurd (omega arith)
nought (suc i) S [] vs k l w a (none, ws, e, h) =
    let v = cut_width i S (wider i S w) in
    let many = (solution_solves i (cut i S) [] ws v h).0 in
    ⊎_elim (λ (m : k < i). front ws vs (pos 0) i k e many m (nought i (cut i S) [] ws k m v (cut_absent i k m S a) h)) (λ (m : i ≤ k). end ws vs i k e many (omega arith)) (cases_lt k i)
nought (suc i) S (p ∷ ps) vs k l w a (inl (none, ws, e, h)) =
    let v = cut_width i S (wider i S w) in
    let many = (solution_solves i (cut i S) (p ∷ ps) ws v h).0 in
    ⊎_elim (λ (m : k < i). front ws vs (pos 0) i k e many m (nought i (cut i S) (p ∷ ps) ws k m v (cut_absent i k m S a) h)) (λ (m : i ≤ k). end ws vs i k e many (omega arith)) (cases_lt k i)
nought (suc i) S (p ∷ ps) vs k l w a (inr (some, c, D, g, s, ws, x, e, own, h)) =
    let u = wider i S w in
    let v = after_width i c g S u in
    let many = (solution_solves i (after i c g S) ps ws v h).0 in
    ⊎_elim
    (λ (m : k < i). front ws vs x i k e many m (nought i (after i c g S) ps ws k m v (after_absent i k m c g p S u s.is_put a) h))
    (λ (m : i ≤ k). let same : k ≡ i = omega arith in absurd (some.2 (All-contains (λ d. lead i d ≡ pos 0) S some.0 (subst (λ j. Absent j S) same a) some.1)))
    (cases_lt k i)
