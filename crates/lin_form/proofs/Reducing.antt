-- Sums whose constant and coefficients are remainders: what is added to them may itself be a remainder.
use Rattle.std.proofs.Common.{◌≡◌, ℕ, zero, suc, inl, inr, ◌+◌, ◌*◌, ◌%◌, ◌==◌, ◌<◌, ◌≤◌, ◌^◌, List, [], ◌∷◌, length, map, drop, add-one, get_or, Bool, true, false, cond, refl, ap, sym, ◌∙◌, subst, arith, unsigned_abs, eq-eqb}
use Rattle.std.proofs.Math.ListN.{set}
use Rattle.std.proofs.Math.IntN.{ℤ, pos, ◌+ℤ◌, ◌*ℤ◌}
use Rattle.std.proofs.lemmas.Int.{ints}
use Rattle.std.proofs.lemmas.Bool.{eqb-true}
use Rattle.std.specs.Ordering.{int_eq}
use Rattle.model_tree.specs.Limits.{greatest_divisor}
use Rattle.model_tree.specs.Range.{IsLabelNumber}
use Rattle.math_int.proofs.Floors.{euclid_range}
use Rattle.model_form.specs.Form.{height, heights, Form, form, Remainders, no_remainders, remainder, Term, modulo}
use Rattle.model_form.specs.Sums.{Sum, add_fields, add_like, is_like, fields_from, without_zeros, form_of_sum}
use Rattle.model_form.specs.Simpler.{add_outer, add_term, add_open, add_all_open, add_term_open, reduced, reduced_totals, reduced_terms}
use Rattle.model_form.specs.Ranges.{IsOfFields, IsOfRemainders, IsOutside, IsApart, AreApart}
use Rattle.model_form.proofs.Modulo.{modulo_twice, modulo_sum, modulo_product}
use Rattle.model_form.proofs.Values.{length-add_fields}
use Rattle.model_form.proofs.Simplified.{length-reduced}
use Rattle.lin_form.specs.declared.form.RemTerm.{RemTerm}
use Rattle.lin_form.specs.declared.sum.Like.{Like}
use Rattle.lin_form.specs.Terms.{plain_remainders}
use Rattle.lin_form.specs.Gathered.{plain_likes}
use Rattle.lin_form.specs.Within.{IsWithin, AreTotals, AreLikes, IsGathered, IsReduced}
use Rattle.lin_form.specs.Whole.{IsInner, AreInner}
use Rattle.form_laws.proofs.Coefficients.{add_like_apart}
use Rattle.lin_form.proofs.Gathering.{sum_within, more_within}
use Rattle.lin_form.proofs.Wholes.{reduced_inner, add_like_inner}

-- ---- reduced twice

pub totals_twice : (m : ℕ) (cs : List ℤ) → 0 < m → reduced_totals m (reduced_totals m cs) ≡ reduced_totals m cs
totals_twice m [] h = refl
totals_twice m (c ∷ cs) h = λ i. modulo_twice m c h i ∷ totals_twice m cs h i

pub terms_twice : (m : ℕ) (rs : Remainders) → 0 < m → reduced_terms m (reduced_terms m rs) ≡ reduced_terms m rs
terms_twice m no_remainders h = refl
terms_twice m (remainder a f k rs) h = λ i. remainder (modulo_twice m a h i) f k (terms_twice m rs h i)

pub reduced_twice : (m : ℕ) (s : Sum) → 0 < m → reduced m (reduced m s) ≡ reduced m s
reduced_twice m s h = λ i. record { constant = modulo_twice m s.constant h i; totals = totals_twice m s.totals h i; terms = terms_twice m s.terms h i }

-- ---- adding before and after

set_reduced : (m : ℕ) (cs : List ℤ) (n : ℕ) (d e : ℤ) → 0 < m → modulo d m ≡ modulo e m
    → reduced_totals m (set cs n (get_or cs n (pos 0) +ℤ d)) ≡ reduced_totals m (set (reduced_totals m cs) n (get_or (reduced_totals m cs) n (pos 0) +ℤ e))
set_reduced m [] n d e h q = refl
set_reduced m (c ∷ cs) zero d e h q = λ i. modulo_sum m c (modulo c m) d e h (sym (modulo_twice m c h)) q i ∷ sym (totals_twice m cs h) i
set_reduced m (c ∷ cs) (suc n) d e h q = λ i. sym (modulo_twice m c h) i ∷ set_reduced m cs n d e h q i

pub fields_reduced : (m : ℕ) (by : ℤ) (ts : List Term) (cs : List ℤ) → 0 < m → reduced_totals m (add_fields by ts cs) ≡ reduced_totals m (add_fields (modulo by m) ts (reduced_totals m cs))
fields_reduced m by [] cs h = sym (totals_twice m cs h)
fields_reduced m by (t ∷ ts) cs h =
    let one = set cs t.field (get_or cs t.field (pos 0) +ℤ (by *ℤ t.coefficient)) in
    let two = set (reduced_totals m cs) t.field (get_or (reduced_totals m cs) t.field (pos 0) +ℤ (modulo by m *ℤ t.coefficient)) in
    let same = set_reduced m cs t.field (by *ℤ t.coefficient) (modulo by m *ℤ t.coefficient) h (sym (modulo_product m (modulo by m) by t.coefficient h (modulo_twice m by h))) in
    fields_reduced m by ts one h
    ∙ (λ i. reduced_totals m (add_fields (sym (modulo_twice m by h) i) ts (same i)))
    ∙ sym (fields_reduced m (modulo by m) ts two h)

pub like_reduced : (m : ℕ) (c : ℤ) (g : Form) (k : ℕ) (rs : Remainders) → 0 < m → reduced_terms m (add_like c g k rs) ≡ reduced_terms m (add_like (modulo c m) g k (reduced_terms m rs))
like_reduced m c g k no_remainders h = λ i. remainder (sym (modulo_twice m c h) i) g k no_remainders
like_reduced m c g k (remainder a f n rs) h = by (is_like f n g k) (like_reduced m c g k rs h)
  where
    by : (b : Bool) → reduced_terms m (add_like c g k rs) ≡ reduced_terms m (add_like (modulo c m) g k (reduced_terms m rs))
        → reduced_terms m (cond b (remainder (a +ℤ c) f n rs) (remainder a f n (add_like c g k rs)))
        ≡ reduced_terms m (cond b (remainder (modulo a m +ℤ modulo c m) f n (reduced_terms m rs)) (remainder (modulo a m) f n (add_like (modulo c m) g k (reduced_terms m rs))))
    by true r = λ i. remainder (modulo_sum m a (modulo a m) c (modulo c m) h (sym (modulo_twice m a h)) (sym (modulo_twice m c h)) i) f n (sym (terms_twice m rs h) i)
    by false r = λ i. remainder (sym (modulo_twice m a h) i) f n (r i)

pub outer_reduced : (m : ℕ) (by c : ℤ) (ts : List Term) (s : Sum) → 0 < m → reduced m (add_outer by c ts s) ≡ reduced m (add_outer (modulo by m) c ts (reduced m s))
outer_reduced m by c ts s h = λ i. record {
  constant = modulo_sum m s.constant (modulo s.constant m) (by *ℤ c) (modulo by m *ℤ c) h (sym (modulo_twice m s.constant h)) (sym (modulo_product m (modulo by m) by c h (modulo_twice m by h))) i;
  totals = fields_reduced m by ts s.totals h i;
  terms = sym (terms_twice m s.terms h) i;
}

pub term_reduced : (m : ℕ) (c : ℤ) (f : Form) (k : ℕ) (s : Sum) → 0 < m → reduced m (add_term c f k s) ≡ reduced m (add_term (modulo c m) f k (reduced m s))
term_reduced m c f k s h = λ i. record {
  constant = sym (modulo_twice m s.constant h) i;
  totals = sym (totals_twice m s.totals h) i;
  terms = like_reduced m c f k s.terms h i;
}

-- the same by either way, where it is so of a form that gives way
one_reduced : (m : ℕ) (c : ℤ) (f : Form) (k : ℕ) (s : Sum) (b : Bool) → 0 < m → reduced m (add_open m c f s) ≡ reduced m (add_open m (modulo c m) f (reduced m s))
    → reduced m (cond b (add_open m c f s) (add_term c f k s)) ≡ reduced m (cond b (add_open m (modulo c m) f (reduced m s)) (add_term (modulo c m) f k (reduced m s)))
one_reduced m c f k s true h e = e
one_reduced m c f k s false h e = term_reduced m c f k s h

mutual
  pub open_reduced : (m : ℕ) (by : ℤ) (f : Form) (s : Sum) → 0 < m → reduced m (add_open m by f s) ≡ reduced m (add_open m (modulo by m) f (reduced m s))
  open_reduced m by (form c ts rs) s h =
      let x = add_outer by c ts s in
      let y = add_outer (modulo by m) c ts (reduced m s) in
      all_open_reduced m by rs x h
      ∙ (λ i. reduced m (add_all_open m (sym (modulo_twice m by h) i) rs (outer_reduced m by c ts s h i)))
      ∙ sym (all_open_reduced m (modulo by m) rs y h)

  pub all_open_reduced : (m : ℕ) (by : ℤ) (rs : Remainders) (s : Sum) → 0 < m → reduced m (add_all_open m by rs s) ≡ reduced m (add_all_open m (modulo by m) rs (reduced m s))
  all_open_reduced m by no_remainders s h = sym (reduced_twice m s h)
  all_open_reduced m by (remainder a f k rs) s h =
      let x = cond (k % m == 0) (add_open m (by *ℤ a) f s) (add_term (by *ℤ a) f k s) in
      let y = cond (k % m == 0) (add_open m (modulo by m *ℤ a) f (reduced m s)) (add_term (modulo by m *ℤ a) f k (reduced m s)) in
      let one = one_reduced m (by *ℤ a) f k s (k % m == 0) h (open_reduced m (by *ℤ a) f s h) in
      let two = one_reduced m (modulo by m *ℤ a) f k (reduced m s) (k % m == 0) h (open_reduced m (modulo by m *ℤ a) f (reduced m s) h) in
      let product : modulo (by *ℤ a) m ≡ modulo (modulo by m *ℤ a) m = sym (modulo_product m (modulo by m) by a h (modulo_twice m by h)) in
      let same : reduced m x ≡ reduced m y =
      one ∙ (λ i. reduced m (cond (k % m == 0) (add_open m (product i) f (sym (reduced_twice m s h) i)) (add_term (product i) f k (sym (reduced_twice m s h) i)))) ∙ sym two in
      all_open_reduced m by rs x h
      ∙ (λ i. reduced m (add_all_open m (sym (modulo_twice m by h) i) rs (same i)))
      ∙ sym (all_open_reduced m (modulo by m) rs y h)

-- a term, whose coefficient and whose sum may be remainders
pub term_open_reduced : (m : ℕ) (c : ℤ) (f : Form) (k : ℕ) (s : Sum) → 0 < m → reduced m (add_term_open m c f k s) ≡ reduced m (add_term_open m (modulo c m) f k (reduced m s))
term_open_reduced m c f k s h = one_reduced m c f k s (k % m == 0) h (open_reduced m c f s h)

-- further terms after what is the same by m
pub all_open_after : (m : ℕ) (by : ℤ) (rs : Remainders) (s t : Sum) → 0 < m → reduced m s ≡ reduced m t → reduced m (add_all_open m by rs s) ≡ reduced m (add_all_open m by rs t)
all_open_after m by rs s t h e = all_open_reduced m by rs s h ∙ ap (λ x. reduced m (add_all_open m (modulo by m) rs x)) e ∙ sym (all_open_reduced m by rs t h)

-- ---- how great they are

pub modulo_small : (c : ℤ) (m : ℕ) → 0 < m → m ≤ greatest_divisor → unsigned_abs (modulo c m) < greatest_divisor
modulo_small c m h l = let r = euclid_range c (pos m) (omega (arith, ints)) in let low = r.0 in let high = r.1 in omega (arith, ints)

pub small_within : (c : ℤ) (m : ℕ) → 0 < m → m ≤ greatest_divisor → IsWithin 1 (modulo c m)
small_within c m h l = let s = modulo_small c m h l in omega arith

totals_small : (m : ℕ) (cs : List ℤ) → 0 < m → m ≤ greatest_divisor → AreTotals 1 (reduced_totals m cs)
totals_small m [] h l = tt
totals_small m (c ∷ cs) h l = (small_within c m h l, totals_small m cs h l)

likes_small : (m n : ℕ) (rs : Remainders) → 0 < m → m ≤ greatest_divisor → AreLikes n rs → AreLikes 1 (reduced_terms m rs)
likes_small m n no_remainders h l g = tt
likes_small m n (remainder a f k rs) h l g = (small_within a m h l, g.1, g.2, likes_small m n rs h l g.3)

apart_one : (m : ℕ) (f : Form) (k : ℕ) (rs : Remainders) → IsApart f k rs → IsApart f k (reduced_terms m rs)
apart_one m f k no_remainders h = tt
apart_one m f k (remainder b g n rs) h = (h.0, apart_one m f k rs h.1)

apart_reduced : (m : ℕ) (rs : Remainders) → AreApart rs → AreApart (reduced_terms m rs)
apart_reduced m no_remainders h = tt
apart_reduced m (remainder a f k rs) h = (apart_one m f k rs h.0, apart_reduced m rs h.1)

-- what is so of a sum and of its remainders
pub record IsHeld (s : Sum) : Type 0 where
  pub eight : length s.totals ≡ 8
  pub bound : ℕ
  pub likes : AreLikes bound s.terms
  pub apart : AreApart s.terms
  pub inner : AreInner s.terms

pub held_reduced : (m : ℕ) (s t : Sum) → 0 < m → m ≤ greatest_divisor → t ≡ reduced m s → IsHeld s → IsReduced m t
held_reduced m s t h l e g = subst (IsReduced m) (sym e) (record {
  gathered = record {
    eight = length-reduced m s.totals ∙ g.eight;
    totals = totals_small m s.totals h l;
    likes = likes_small m g.bound s.terms h l g.likes;
    apart = apart_reduced m s.terms g.apart;
    inner = reduced_inner m s.terms g.inner;
  };
  constant = (let c = modulo_small s.constant m h l in omega arith);
  same = reduced_twice m s h;
})

pub like_more : (n : ℕ) (c : ℤ) (g : Form) (k : ℕ) (rs : Remainders) → IsWithin 1 c → 0 < k → k ≤ greatest_divisor → AreLikes n rs → AreLikes (suc n) (add_like c g k rs)
like_more n c g k no_remainders w p q h = ((let e : 1 * 2 ^ 62 ≤ suc n * 2 ^ 62 = omega arith in (omega arith)), p, q, tt)
like_more n c g k (remainder a f m rs) w p q h = by (is_like f m g k) (like_more n c g k rs w p q h.3)
  where
    later : (rs : Remainders) → AreLikes n rs → AreLikes (suc n) rs
    later no_remainders h = tt
    later (remainder a f m rs) h = (more_within n a h.0, h.1, h.2, later rs h.3)

    by : (b : Bool) → AreLikes (suc n) (add_like c g k rs) → AreLikes (suc n) (cond b (remainder (a +ℤ c) f m rs) (remainder a f m (add_like c g k rs)))
    by true r = (sum_within n a c h.0 w, h.1, h.2, later rs h.3)
    by false r = (more_within n a h.0, h.1, h.2, r)

pub held_term : (n : ℕ) (c : ℤ) (f : Form) (k : ℕ) (s : Sum) → IsWithin 1 c → 0 < k → k ≤ greatest_divisor → IsInner f → IsGathered n s → IsHeld (add_term c f k s)
held_term n c f k s w p q i g = record { eight = g.eight; bound = suc n; likes = like_more n c f k s.terms w p q g.likes; apart = add_like_apart c f k s.terms g.apart; inner = add_like_inner c f k s.terms i g.inner }

pub held_outer : (n : ℕ) (by c : ℤ) (ts : List Term) (s : Sum) → IsGathered n s → IsHeld (add_outer by c ts s)
held_outer n by c ts s g = record { eight = length-add_fields by ts s.totals ∙ g.eight; bound = n; likes = g.likes; apart = g.apart; inner = g.inner }

-- ---- nothing is outside

fields_small : (m n : ℕ) (cs : List ℤ) (z : ℤ) → 0 < m → m ≤ greatest_divisor → IsOfFields z (fields_from n (reduced_totals m cs)) → unsigned_abs z < greatest_divisor
fields_small m n [] z h l i = absurd i
fields_small m n (c ∷ cs) z h l i = by (int_eq (modulo c m) (pos 0)) (fields_small m (suc n) cs z h l) i
  where
    by : (b : Bool) → (IsOfFields z (fields_from (suc n) (reduced_totals m cs)) → unsigned_abs z < greatest_divisor)
        → IsOfFields z (cond b (fields_from (suc n) (reduced_totals m cs)) (record { field = n; coefficient = modulo c m } ∷ fields_from (suc n) (reduced_totals m cs))) → unsigned_abs z < greatest_divisor
    by true r i = r i
    by false r (inl e) = subst (λ x. unsigned_abs x < greatest_divisor) (sym e) (modulo_small c m h l)
    by false r (inr i) = r i

terms_small : (m : ℕ) (rs : Remainders) (z : ℤ) → 0 < m → m ≤ greatest_divisor → IsOfRemainders z (without_zeros (reduced_terms m rs)) → unsigned_abs z < greatest_divisor
terms_small m no_remainders z h l i = absurd i
terms_small m (remainder a f k rs) z h l i = by (int_eq (modulo a m) (pos 0)) (terms_small m rs z h l) i
  where
    by : (b : Bool) → (IsOfRemainders z (without_zeros (reduced_terms m rs)) → unsigned_abs z < greatest_divisor)
        → IsOfRemainders z (cond b (without_zeros (reduced_terms m rs)) (remainder (modulo a m) f k (without_zeros (reduced_terms m rs)))) → unsigned_abs z < greatest_divisor
    by true r i = r i
    by false r (inl e) = subst (λ x. unsigned_abs x < greatest_divisor) (sym e) (modulo_small a m h l)
    by false r (inr i) = r i

pub reduced_inside : (m : ℕ) (s : Sum) → 0 < m → m ≤ greatest_divisor → IsReduced m s → (n : ℤ) → IsOutside (form_of_sum s) n → ⊥
reduced_inside m s h l g n o = none (subst (λ t. IsOutside (form_of_sum t) n) (sym g.same) o)
  where
    none : IsOutside (form_of_sum (reduced m s)) n → ⊥
    none (inl x) = x.1 (subst IsLabelNumber (sym x.0) (let c = modulo_small s.constant m h l in omega (arith, ints)))
    none (inr x) = x.1 (let small : unsigned_abs n < greatest_divisor = elim x.0 as (λ _. unsigned_abs n < greatest_divisor) [ inl i ↦ fields_small m 0 s.totals n h l i | inr i ↦ terms_small m s.terms n h l i ] in (omega arith))

-- ---- lists of which the first elements are done

module _ {A : Type 0} (f : A → A) where
  abbrev pub front : ℕ → List A → List A
  front zero xs = xs
  front (suc i) [] = []
  front (suc i) (x ∷ xs) = f x ∷ front i xs

  pub front_step : (i : ℕ) (xs : List A) (d : A) → i < length xs → set (front i xs) i (f (get_or (front i xs) i d)) ≡ front (suc i) xs
  front_step i [] d h = absurd (omega arith)
  front_step zero (x ∷ xs) d h = refl
  front_step (suc i) (x ∷ xs) d h = ap (λ ys. f x ∷ ys) (front_step i xs d (omega arith))

  pub length-front : (i : ℕ) (xs : List A) → length (front i xs) ≡ length xs
  length-front zero xs = refl
  length-front (suc i) [] = refl
  length-front (suc i) (x ∷ xs) = ap suc (length-front i xs)

  pub front_all : (i : ℕ) (xs : List A) → length xs ≤ i → front i xs ≡ map f xs
  front_all zero [] h = refl
  front_all zero (x ∷ xs) h = absurd (omega arith)
  front_all (suc i) [] h = refl
  front_all (suc i) (x ∷ xs) h = ap (λ ys. f x ∷ ys) (front_all i xs (omega arith))

abbrev pub reduced_like : ℕ → Like → Like
reduced_like m t = record { coefficient = modulo t.coefficient m; inner = t.inner; divisor = t.divisor }

pub likes_reduced : (m : ℕ) (ts : List Like) → plain_likes (map (reduced_like m) ts) ≡ reduced_terms m (plain_likes ts)
likes_reduced m [] = refl
likes_reduced m (t ∷ ts) = ap (remainder (modulo t.coefficient m) t.inner t.divisor) (likes_reduced m ts)

-- ---- one term more

module _ (m : ℕ) (c d : ℤ) (f : Form) (k : ℕ) (s : Sum) (h : 0 < m) (e : d ≡ modulo c m) (r : reduced m s ≡ s) where
  at : reduced m (add_term_open m d f k s) ≡ reduced m (add_term_open m c f k s)
  at = (λ i. reduced m (add_term_open m (e i) f k (sym r i))) ∙ sym (term_open_reduced m c f k s h)

  -- a term that gives way
  pub opens : k % m ≡ 0 → reduced m (add_open m d f s) ≡ reduced m (add_term_open m c f k s)
  opens z = ap (λ b. reduced m (cond b (add_open m d f s) (add_term d f k s))) (sym (eq-eqb (k % m) 0 z)) ∙ at

  -- one that doesn't
  pub stays : (k % m ≡ 0 → ⊥) → reduced m (add_term d f k s) ≡ reduced m (add_term_open m c f k s)
  stays n = ap (λ b. reduced m (cond b (add_open m d f s) (add_term d f k s))) (sym (not (k % m == 0) refl)) ∙ at
    where
      not : (b : Bool) → (k % m == 0) ≡ b → (k % m == 0) ≡ false
      not false q = q
      not true q = absurd (n (eqb-true (k % m) 0 q))

-- ---- the next like term

pub likes_drop : (ts : List Like) (k : ℕ) (d : Like) → k < length ts → plain_likes (drop k ts) ≡ remainder (get_or ts k d).coefficient (get_or ts k d).inner (get_or ts k d).divisor (plain_likes (drop (k + 1) ts))
likes_drop ts k d h = rw (add-one k) (go ts k h)
  where
    go : (ts : List Like) (k : ℕ) → k < length ts → plain_likes (drop k ts) ≡ remainder (get_or ts k d).coefficient (get_or ts k d).inner (get_or ts k d).divisor (plain_likes (drop (suc k) ts))
    go [] k h = absurd (omega arith)
    go (t ∷ ts) zero h = refl
    go (t ∷ ts) (suc k) h = go ts k (omega arith)

pub divisor_at : (n : ℕ) (ts : List Like) (k : ℕ) (d : Like) → AreLikes n (plain_likes ts) → k < length ts → (0 < (get_or ts k d).divisor) × ((get_or ts k d).divisor ≤ greatest_divisor)
divisor_at n [] k d h l = absurd (omega arith)
divisor_at n (t ∷ ts) zero d h l = (h.1, h.2)
divisor_at n (t ∷ ts) (suc k) d h l = divisor_at n ts k d h.3 (omega arith)

-- an inner form is less high
pub inner_lower : (ts : List RemTerm) (k : ℕ) (d : RemTerm) → k < length ts → height (get_or ts k d).inner ≤ heights (plain_remainders ts)
inner_lower [] k d h = absurd (omega arith)
inner_lower (t ∷ ts) zero d h = omega arith
inner_lower (t ∷ ts) (suc k) d h = let r = inner_lower ts k d (omega arith) in omega arith
