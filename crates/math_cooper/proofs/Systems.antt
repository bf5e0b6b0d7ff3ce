-- From systems over lists of variables to one variable.
use Rattle.std.proofs.Common.{◌≡◌, ℕ, zero, suc, ◌+◌, ◌≤◌, List, [], ◌∷◌, ◌++◌, take, replicate, length, get_or, map, arith, refl, ap, sym, ◌∙◌, subst, length-take}
use Rattle.std.proofs.Math.IntN.{ℤ, pos, ◌+ℤ◌, ◌-ℤ◌, ◌*ℤ◌, neg_ℤ}
use Rattle.std.proofs.Math.ListN.{length-map, length-replicate}
use Rattle.std.proofs.lemmas.Int.{ints}
use Rattle.math_cooper.specs.Line.{Meets, HoldsAt}
use Rattle.math_cooper.specs.System.{dot, Condition, Holds, lead, line, add_times, Affine, affine_value, put, low_form, high_form, free_form, HasWidth}
use Rattle.math_int.proofs.Laws.{times-assoc, times-add, add-times, neg-times}

-- one more value at the end
pub dot-push : (f ws : List ℤ) (i : ℕ) (x : ℤ) → length ws ≡ i → dot f (ws ++ x ∷ []) ≡ (get_or f i (pos 0) *ℤ x) +ℤ dot (take i f) ws
unfolding dot
dot-push [] ws zero x h = omega (arith, ints)
dot-push [] ws (suc i) x h = omega (arith, ints)
dot-push (a ∷ f) [] zero x h = omega (arith, ints, nothing f)
  where
    nothing : (f : List ℤ) → dot f [] ≡ pos 0
    nothing [] = refl
    nothing (a ∷ f) = refl
dot-push (a ∷ f) [] (suc i) x h = absurd (omega arith)
dot-push (a ∷ f) (v ∷ ws) zero x h = absurd (omega arith)
dot-push (a ∷ f) (v ∷ ws) (suc i) x h = let r = dot-push f ws i x (omega arith) in omega (arith, ints)

pub dot-add_times : (a : ℤ) (f g vs : List ℤ) → length g ≤ length f → dot (add_times a f g) vs ≡ dot f vs +ℤ (a *ℤ dot g vs)
unfolding dot add_times
dot-add_times a [] [] vs h = omega (arith, ints)
dot-add_times a [] (y ∷ g) vs h = absurd (omega arith)
dot-add_times a (x ∷ f) [] vs h = omega (arith, ints)
dot-add_times a (x ∷ f) (y ∷ g) [] h = omega (arith, ints)
dot-add_times a (x ∷ f) (y ∷ g) (v ∷ vs) h = let r = dot-add_times a f g vs (omega arith) in omega (arith, ints, r, add-times v x (a *ℤ y), times-add a (y *ℤ v) (dot g vs), times-assoc a y v)

pub length-add_times : (a : ℤ) (f g : List ℤ) → length (add_times a f g) ≡ length f
unfolding add_times
length-add_times a [] g = refl
length-add_times a (x ∷ f) [] = refl
length-add_times a (x ∷ f) (y ∷ g) = ap suc (length-add_times a f g)

pub dot-times : (k : ℤ) (f vs : List ℤ) → dot (map (λ a. k *ℤ a) f) vs ≡ k *ℤ dot f vs
unfolding dot
dot-times k [] vs = omega (arith, ints)
dot-times k (a ∷ f) [] = omega (arith, ints)
dot-times k (a ∷ f) (v ∷ vs) = ap (λ z. ((k *ℤ a) *ℤ v) +ℤ z) (dot-times k f vs) ∙ ap (λ z. z +ℤ (k *ℤ dot f vs)) (times-assoc k a v) ∙ sym (times-add k (a *ℤ v) (dot f vs))

pub dot-zeros : (n : ℕ) (vs : List ℤ) → dot (replicate n (pos 0)) vs ≡ pos 0
unfolding dot
dot-zeros zero vs = refl
dot-zeros (suc n) [] = refl
dot-zeros (suc n) (v ∷ vs) = ap (λ z. (pos 0 *ℤ v) +ℤ z) (dot-zeros n vs) ∙ omega (arith, ints)

-- a constraint at values holds exactly where its line does
pub line_in : (i : ℕ) (ws : List ℤ) (x : ℤ) (c : Condition) → length ws ≡ i → Holds (ws ++ x ∷ []) c → HoldsAt x (line i ws c)
unfolding line
line_in i ws x c h k = subst (Meets c.kind) (ap (λ z. z +ℤ c.constant) (dot-push c.coefficients ws i x h) ∙ omega (arith, ints)) k

pub line_out : (i : ℕ) (ws : List ℤ) (x : ℤ) (c : Condition) → length ws ≡ i → HoldsAt x (line i ws c) → Holds (ws ++ x ∷ []) c
unfolding line
line_out i ws x c h k = subst (Meets c.kind) (sym (ap (λ z. z +ℤ c.constant) (dot-push c.coefficients ws i x h) ∙ omega (arith, ints))) k

-- ---- a put

put-value : (a k gk : ℤ) (f g vs : List ℤ) → length g ≤ length f → dot (add_times a f g) vs +ℤ (k +ℤ (a *ℤ gk)) ≡ (a *ℤ (dot g vs +ℤ gk)) +ℤ (dot f vs +ℤ k)
put-value a k gk f g vs h = omega (arith, ints, dot-add_times a f g vs h, times-add a (dot g vs) gk)

-- the form has i coefficients, and the constraint one more
front : (i : ℕ) (g : List ℤ) (f : List ℤ) → length g ≡ i → length f ≡ i + 1 → length g ≤ length (take i f)
front i g f e h = omega (arith, length-take i f)

pub put_in : (i : ℕ) (g : Affine) (ws : List ℤ) (c : Condition) → length g.coefficients ≡ i → HasWidth (i + 1) c → HoldsAt (affine_value g ws) (line i ws c) → Holds ws (put i g c)
unfolding line put
put_in i g ws c h w k = subst (Meets c.kind) (sym (put-value (lead i c) c.constant g.constant (take i c.coefficients) g.coefficients ws (front i g.coefficients c.coefficients h w))) k

pub put_out : (i : ℕ) (g : Affine) (ws : List ℤ) (c : Condition) → length g.coefficients ≡ i → HasWidth (i + 1) c → Holds ws (put i g c) → HoldsAt (affine_value g ws) (line i ws c)
unfolding line put
put_out i g ws c h w k = subst (Meets c.kind) (put-value (lead i c) c.constant g.constant (take i c.coefficients) g.coefficients ws (front i g.coefficients c.coefficients h w)) k

pub put_width : (i : ℕ) (g : Affine) (c : Condition) → HasWidth (i + 1) c → HasWidth i (put i g c)
unfolding put
put_width i g c w = length-add_times (lead i c) (take i c.coefficients) g.coefficients ∙ omega (arith, length-take i c.coefficients)

-- ---- the bounds as forms

dot-neg : (f vs : List ℤ) → dot (map neg_ℤ f) vs ≡ neg_ℤ (dot f vs)
unfolding dot
dot-neg [] vs = refl
dot-neg (a ∷ f) [] = refl
dot-neg (a ∷ f) (v ∷ vs) = omega (arith, ints, dot-neg f vs, neg-times a v)

pub low_value : (i : ℕ) (b : Condition) (j : ℕ) (ws : List ℤ) → affine_value (low_form i b j) ws ≡ neg_ℤ (line i ws b).rest +ℤ pos j
unfolding line low_form
low_value i b j ws = omega (arith, ints, dot-neg (take i b.coefficients) ws)

pub high_value : (i : ℕ) (b : Condition) (j : ℕ) (ws : List ℤ) → affine_value (high_form i b j) ws ≡ (line i ws b).rest -ℤ pos j
unfolding line high_form
high_value i b j ws = omega (arith, ints)

pub free_value : (i j : ℕ) (ws : List ℤ) → affine_value (free_form i j) ws ≡ pos j
unfolding free_form
free_value i j ws = omega (arith, ints, dot-zeros i ws)

pub low_length : (i j : ℕ) (b : Condition) → HasWidth (i + 1) b → length (low_form i b j).coefficients ≡ i
unfolding low_form
low_length i j b w = length-map (take i b.coefficients) neg_ℤ ∙ omega (arith, length-take i b.coefficients)

pub high_length : (i j : ℕ) (b : Condition) → HasWidth (i + 1) b → length (high_form i b j).coefficients ≡ i
unfolding high_form
high_length i j b w = omega (arith, length-take i b.coefficients)

pub free_length : (i j : ℕ) → length (free_form i j).coefficients ≡ i
unfolding free_form
free_length i j = length-replicate i (pos 0)
