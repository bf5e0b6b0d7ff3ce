-- One variable as so many times another one and a rest.
use Rattle.std.proofs.Common.{◌≡◌, ℕ, zero, suc, ◌<◌, List, [], ◌∷◌, length, get_or, set, refl, ap, sym, ◌∙◌, subst, arith}
use Rattle.std.proofs.Math.IntN.{ℤ, pos, ◌+ℤ◌, ◌*ℤ◌}
use Rattle.std.proofs.lemmas.Int.{ints}
use Rattle.math_int.proofs.Laws.{times-add, add-times, times-assoc}
use Rattle.std.proofs.lemmas.List.{length-set}
use Rattle.math_cooper.specs.Line.{Meets}
use Rattle.math_cooper.specs.System.{Condition, Holds, dot}

-- the value stays where the coefficient takes the times, and the constant the rest
pub dot_part : (f vs : List ℤ) (i : ℕ) (t r w : ℤ) → i < length f → i < length vs → get_or vs i (pos 0) ≡ (t *ℤ w) +ℤ r → dot (set f i (get_or f i (pos 0) *ℤ t)) (set vs i w) +ℤ (get_or f i (pos 0) *ℤ r) ≡ dot f vs
unfolding dot
dot_part [] vs i t r w l m e = absurd (omega arith)
dot_part (a ∷ f) [] i t r w l m e = absurd (omega arith)
dot_part (a ∷ f) (v ∷ vs) zero t r w l m e = first
  where
    whole : a *ℤ v ≡ (a *ℤ (t *ℤ w)) +ℤ (a *ℤ r)
    whole = ap (λ x. a *ℤ x) e ∙ times-add a (t *ℤ w) r

    first : (((a *ℤ t) *ℤ w) +ℤ dot f vs) +ℤ (a *ℤ r) ≡ (a *ℤ v) +ℤ dot f vs
    first = let q = times-assoc a t w in let p = whole in omega (arith, ints)
dot_part (a ∷ f) (v ∷ vs) (suc i) t r w l m e =
    let h = dot_part f vs i t r w (omega arith) (omega arith) e in omega (arith, ints)

-- a condition that holds holds of the new variable too
pub holds_part : (c : Condition) (vs : List ℤ) (i : ℕ) (t r w k : ℤ) (row : List ℤ) → i < length c.coefficients → i < length vs → get_or vs i (pos 0) ≡ (t *ℤ w) +ℤ r
    → k ≡ c.constant +ℤ (get_or c.coefficients i (pos 0) *ℤ r) → row ≡ set c.coefficients i (get_or c.coefficients i (pos 0) *ℤ t) → Holds vs c → Holds (set vs i w) (record { kind = c.kind; constant = k; coefficients = row })
holds_part c vs i t r w k row l m e f g h = subst (Meets c.kind) (sym same) h
  where
    a : ℤ
    a = get_or c.coefficients i (pos 0)

    same : dot row (set vs i w) +ℤ k ≡ dot c.coefficients vs +ℤ c.constant
    same = let d = dot_part c.coefficients vs i t r w l m e in (λ j. dot (g j) (set vs i w) +ℤ f j) ∙ omega (arith, ints, d)

-- ---- one variable as another one and so many times a third

dot_row : (f vs : List ℤ) (i : ℕ) (a : ℤ) → i < length f → i < length vs → dot (set f i a) vs +ℤ (get_or f i (pos 0) *ℤ get_or vs i (pos 0)) ≡ dot f vs +ℤ (a *ℤ get_or vs i (pos 0))
unfolding dot
dot_row [] vs i a l m = absurd (omega arith)
dot_row (b ∷ f) [] i a l m = absurd (omega arith)
dot_row (b ∷ f) (v ∷ vs) zero a l m = omega (arith, ints)
dot_row (b ∷ f) (v ∷ vs) (suc i) a l m = let h = dot_row f vs i a (omega arith) (omega arith) in omega (arith, ints)

dot_values : (f vs : List ℤ) (i : ℕ) (w : ℤ) → i < length f → i < length vs → dot f (set vs i w) +ℤ (get_or f i (pos 0) *ℤ get_or vs i (pos 0)) ≡ dot f vs +ℤ (get_or f i (pos 0) *ℤ w)
unfolding dot
dot_values [] vs i w l m = absurd (omega arith)
dot_values (b ∷ f) [] i w l m = absurd (omega arith)
dot_values (b ∷ f) (v ∷ vs) zero w l m = omega (arith, ints)
dot_values (b ∷ f) (v ∷ vs) (suc i) w l m = let h = dot_values f vs i w (omega arith) (omega arith) in omega (arith, ints)

other_value : (vs : List ℤ) (i k : ℕ) (w : ℤ) → (k ≡ i → ⊥) → get_or (set vs i w) k (pos 0) ≡ get_or vs k (pos 0)
other_value [] i k w d = refl
other_value (v ∷ vs) zero zero w d = absurd (d refl)
other_value (v ∷ vs) zero (suc k) w d = refl
other_value (v ∷ vs) (suc i) zero w d = refl
other_value (v ∷ vs) (suc i) (suc k) w d = other_value vs i k w (λ e. d (ap suc e))

-- the value stays where the third one's coefficient takes so many times the first one's
pub dot_sheared : (f vs : List ℤ) (i k : ℕ) (t w : ℤ) → i < length f → k < length f → (k ≡ i → ⊥) → i < length vs → k < length vs → get_or vs i (pos 0) ≡ w +ℤ (t *ℤ get_or vs k (pos 0))
    → dot (set f k (get_or f k (pos 0) +ℤ (get_or f i (pos 0) *ℤ t))) (set vs i w) ≡ dot f vs
dot_sheared f vs i k t w l m d p q e =
    let a = get_or f i (pos 0) in
    let b = get_or f k (pos 0) in
    let v = get_or vs k (pos 0) in
    let longer : k < length (set vs i w) = (let s = length-set vs i w in omega arith) in
    let row : dot (set f k (b +ℤ (a *ℤ t))) (set vs i w) +ℤ (b *ℤ v) ≡ dot f (set vs i w) +ℤ ((b +ℤ (a *ℤ t)) *ℤ v) = subst (λ x. dot (set f k (b +ℤ (a *ℤ t))) (set vs i w) +ℤ (b *ℤ x) ≡ dot f (set vs i w) +ℤ ((b +ℤ (a *ℤ t)) *ℤ x)) (other_value vs i k w d) (dot_row f (set vs i w) k (b +ℤ (a *ℤ t)) m longer) in
    let values = dot_values f vs i w l p in
    let first : a *ℤ get_or vs i (pos 0) ≡ (a *ℤ w) +ℤ (a *ℤ (t *ℤ v)) = ap (λ x. a *ℤ x) e ∙ times-add a w (t *ℤ v) in
    let second = add-times v b (a *ℤ t) in
    let third = times-assoc a t v in
    omega (arith, ints)

-- a condition that holds holds of the new variable too
pub holds_sheared : (c : Condition) (vs : List ℤ) (i k : ℕ) (t w m : ℤ) (row : List ℤ) → i < length c.coefficients → k < length c.coefficients → (k ≡ i → ⊥) → i < length vs → k < length vs → get_or vs i (pos 0) ≡ w +ℤ (t *ℤ get_or vs k (pos 0))
    → row ≡ set c.coefficients k (get_or c.coefficients k (pos 0) +ℤ (get_or c.coefficients i (pos 0) *ℤ t)) → m ≡ c.constant → Holds vs c → Holds (set vs i w) (record { kind = c.kind; constant = m; coefficients = row })
holds_sheared c vs i k t w m row l o d p q e g n h = subst (Meets c.kind) (sym same) h
  where
    same : dot row (set vs i w) +ℤ m ≡ dot c.coefficients vs +ℤ c.constant
    same = (λ j. dot (g j) (set vs i w) +ℤ n j) ∙ ap (λ x. x +ℤ c.constant) (dot_sheared c.coefficients vs i k t w l o d p q e)
