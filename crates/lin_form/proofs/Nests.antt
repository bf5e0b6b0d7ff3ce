-- Remainders of nothing but a remainder.
use Rattle.std.proofs.Common.{◌≡◌, ℕ, zero, suc, inl, inr, ◌+◌, ◌*◌, ◌%◌, ◌==◌, ◌<◌, ◌≤◌, ◌&&◌, List, [], ◌∷◌, ◌++◌, length, take, get_or, Bool, true, false, cond, refl, ap, sym, ◌∙◌, subst, arith, add-one, unsigned_abs, ◌^◌}
use Rattle.std.proofs.Math.IntN.{ℤ, pos, ◌+ℤ◌, ◌*ℤ◌}
use Rattle.std.proofs.lemmas.Int.{ints}
use Rattle.std.proofs.lemmas.Bool.{eq-eqb}
use Rattle.std.specs.Ordering.{int_eq, is_gt}
use Rattle.model_tree.specs.Limits.{greatest_divisor}
use Rattle.model_form.specs.Form.{Form, form, Remainders, no_remainders, remainder, Term, count, height, value, modulo}
use Rattle.model_form.specs.Same.{Item, remainders, put, item_cmp, ordered, ordered_all, same_form}
use Rattle.model_form.specs.Sums.{Sum, started, add_form, form_of_sum, remainder_form, subst_form}
use Rattle.model_tree.specs.Range.{IsLabelNumber}
use Rattle.model_form.specs.Ranges.{IsCoefficient, IsOfRemainders, IsOutside, IsOutsideAfter}
use Rattle.model_form.specs.Simpler.{add_outer, add_term, add_open, add_term_open, inside, simpler_sum}
use Rattle.model_form.proofs.Equals.{same_in, same_out}
use Rattle.lin_form.specs.Nest.{bare, nest, nest_front, is_bare, base_of, divisors_of, depth, depth_over, AreDivisors}
use Rattle.model_form.proofs.Values.{both_out, int_eq-out}
use Rattle.lin_form.specs.declared.form.RemTerm.{RemTerm}
use Rattle.lin_form.specs.Terms.{plain_remainders}
use Rattle.lin_form.specs.Falls.{base_falls}
use Rattle.lin_form.specs.Whole.{IsWhole, IsInner, IsSound, deepest}
use Rattle.lin_form.proofs.Wholes.{sound_whole}
use Rattle.lin_form.proofs.Putting.{modulo_small}

-- ---- the first so many

pub front_step : (i : ℕ) (f : Form) (ks : List ℕ) (d : ℕ) → i < length ks → nest_front (suc i) f ks ≡ bare (nest_front i f ks) (get_or ks i d)
front_step i f [] d h = absurd (omega arith)
front_step zero f (k ∷ ks) d h = refl
front_step (suc i) f (k ∷ ks) d h = front_step i (bare f k) ks d (omega arith)

pub front_all : (i : ℕ) (f : Form) (ks : List ℕ) → length ks ≤ i → nest_front i f ks ≡ nest f ks
front_all zero f [] h = refl
front_all (suc i) f [] h = refl
front_all zero f (k ∷ ks) h = absurd (omega arith)
front_all (suc i) f (k ∷ ks) h = front_all i (bare f k) ks (omega arith)

pub front_take : (i : ℕ) (f : Form) (ks : List ℕ) → nest f (take i ks) ≡ nest_front i f ks
front_take zero f ks = refl
front_take (suc i) f [] = refl
front_take (suc i) f (k ∷ ks) = front_take i (bare f k) ks

pub nest_end : (f : Form) (ks : List ℕ) (k : ℕ) → nest f (ks ++ k ∷ []) ≡ bare (nest f ks) k
nest_end f [] k = refl
nest_end f (m ∷ ks) k = nest_end (bare f m) ks k

-- ---- what is under them

base_own : (f : Form) → is_bare f ≡ false → base_of f ≡ f
base_own (form c (t ∷ ts) rs) e = refl
base_own (form c [] no_remainders) e = refl
base_own (form c [] (remainder a f k no_remainders)) e = ap (λ b. cond b (base_of f) (form c [] (remainder a f k no_remainders))) e
base_own (form c [] (remainder a f k (remainder b g m rs))) e = refl

divisors_none : (f : Form) → is_bare f ≡ false → divisors_of f ≡ []
divisors_none (form c (t ∷ ts) rs) e = refl
divisors_none (form c [] no_remainders) e = refl
divisors_none (form c [] (remainder a f k no_remainders)) e = ap (λ b. cond b (divisors_of f ++ (k ∷ [])) []) e
divisors_none (form c [] (remainder a f k (remainder b g m rs))) e = refl

base_under : (f : Form) (ks : List ℕ) → base_of (nest f ks) ≡ base_of f
base_under f [] = refl
base_under f (k ∷ ks) = base_under (bare f k) ks

further : (xs : List ℕ) (k : ℕ) (ks : List ℕ) → (xs ++ (k ∷ [])) ++ ks ≡ xs ++ (k ∷ ks)
further [] k ks = refl
further (x ∷ xs) k ks = ap (λ ys. x ∷ ys) (further xs k ks)

none_behind : (xs : List ℕ) → xs ++ [] ≡ xs
none_behind [] = refl
none_behind (x ∷ xs) = ap (λ ys. x ∷ ys) (none_behind xs)

divisors_under : (f : Form) (ks : List ℕ) → divisors_of (nest f ks) ≡ divisors_of f ++ ks
divisors_under f [] = sym (none_behind (divisors_of f))
divisors_under f (k ∷ ks) = divisors_under (bare f k) ks ∙ further (divisors_of f) k ks

pub base_is : (f : Form) (ks : List ℕ) → is_bare f ≡ false → base_of (nest f ks) ≡ f
base_is f ks e = base_under f ks ∙ base_own f e

pub divisors_are : (f : Form) (ks : List ℕ) → is_bare f ≡ false → divisors_of (nest f ks) ≡ ks
divisors_are f ks e = divisors_under f ks ∙ ap (λ ms. ms ++ ks) (divisors_none f e)

-- ---- how deep they are

pub depth_over_bare : (f : Form) (k : ℕ) → depth_over (bare f k) ≡ depth_over f
depth_over_bare f k = omega arith

depth_over_under : (f : Form) (ks : List ℕ) → depth_over (nest f ks) ≡ depth_over f
depth_over_under f [] = refl
depth_over_under f (k ∷ ks) = depth_over_under (bare f k) ks ∙ depth_over_bare f k

pub depth_over_is : (f : Form) (ks : List ℕ) → is_bare f ≡ false → depth_over (nest f ks) ≡ suc (depth f)
depth_over_is f ks e = depth_over_under f ks ∙ ap (λ b. cond b (depth f) (suc (depth f))) e

pub inner_bare : (f : Form) (k : ℕ) → 0 < k → IsInner f → IsInner (bare f k)
inner_bare f k h i = (
  record {
    over = (tt, (i.0.over, tt));
    divided = (h, i.0.divided, tt);
    low = (let low = i.1 in omega arith);
  },
  (let low = i.1 in let same = depth_over_bare f k in omega arith),
)

inner_under : (f : Form) (k : ℕ) → IsInner (bare f k) → IsInner f
inner_under f k i =
    let same = depth_over_bare f k in
    let low = i.1 in
    let here : depth_over f ≤ deepest = omega arith in
    (record { over = i.0.over.1.0; divided = i.0.divided.1; low = lower f here }, here)
  where
    lower : (f : Form) → depth_over f ≤ deepest → depth f ≤ deepest
    lower f h = by (is_bare f) h
      where
        by : (b : Bool) → cond b (depth f) (suc (depth f)) ≤ deepest → depth f ≤ deepest
        by true h = h
        by false h = omega arith

pub inner_front : (i : ℕ) (f : Form) (ks : List ℕ) → IsInner (nest f ks) → IsInner (nest_front i f ks)
inner_front zero f [] h = h
inner_front zero f (k ∷ ks) h = inner_under f k (inner_front zero (bare f k) ks h)
inner_front (suc i) f [] h = h
inner_front (suc i) f (k ∷ ks) h = inner_front i (bare f k) ks h

-- ---- how high they are

pub front_lower : (i : ℕ) (f : Form) (ks : List ℕ) → i < length ks → height (nest_front i f ks) < height (nest f ks)
front_lower i f [] h = absurd (omega arith)
front_lower zero f (k ∷ ks) h = let low = base_falls (bare f k) ks in omega arith
front_lower (suc i) f (k ∷ ks) h = front_lower i (bare f k) ks (omega arith)

-- ---- what they are worth

pub value_bare : (f : Form) (k : ℕ) (values : List ℤ) → value (bare f k) values ≡ modulo (value f values) k
value_bare f k values = once (modulo (value f values) k)
  where
    once : (z : ℤ) → pos 0 +ℤ (pos 0 +ℤ ((pos 1 *ℤ z) +ℤ pos 0)) ≡ z
    once z = omega (arith, ints)

-- ---- which are equal

more_ordered : (f : Form) → is_bare (ordered f) ≡ is_bare f
more_ordered (form c (t ∷ ts) rs) = refl
more_ordered (form c [] no_remainders) = refl
more_ordered (form c [] (remainder a f k no_remainders)) = refl
more_ordered (form c [] (remainder a f k (remainder b g m rs))) = several c (record { coefficient = a; inner = ordered f; divisor = k }) (record { coefficient = b; inner = ordered g; divisor = m }) (ordered_all rs)
  where
    two : (c : ℤ) (x y : Item) (zs : List Item) → is_bare (form c [] (remainders (x ∷ y ∷ zs))) ≡ false
    two c x y zs = refl

    one_more : (c : ℤ) (x y : Item) (zs : List Item) → is_bare (form c [] (remainders (put item_cmp x (y ∷ zs)))) ≡ false
    one_more c x y [] = by (is_gt (item_cmp x y))
      where
        by : (b : Bool) → is_bare (form c [] (remainders (cond b (y ∷ x ∷ []) (x ∷ y ∷ [])))) ≡ false
        by true = refl
        by false = refl
    one_more c x y (z ∷ zs) = by (is_gt (item_cmp x y)) (is_gt (item_cmp x z))
      where
        by : (b d : Bool) → is_bare (form c [] (remainders (cond b (y ∷ cond d (z ∷ put item_cmp x zs) (x ∷ z ∷ zs)) (x ∷ y ∷ z ∷ zs)))) ≡ false
        by true true = refl
        by true false = refl
        by false d = refl

    several : (c : ℤ) (x y : Item) (zs : List Item) → is_bare (form c [] (remainders (put item_cmp x (put item_cmp y zs)))) ≡ false
    several c x y [] = one_more c x y []
    several c x y (z ∷ zs) = by (is_gt (item_cmp y z))
      where
        by : (b : Bool) → is_bare (form c [] (remainders (put item_cmp x (cond b (z ∷ put item_cmp y zs) (y ∷ z ∷ zs))))) ≡ false
        by true = one_more c x z (put item_cmp y zs)
        by false = one_more c x y (z ∷ zs)

ordered_nest : (f : Form) (ks : List ℕ) → ordered (nest f ks) ≡ nest (ordered f) ks
ordered_nest f [] = refl
ordered_nest f (k ∷ ks) = ordered_nest (bare f k) ks

pub same_nest : (f g : Form) (ks ls : List ℕ) → ks ≡ ls → same_form f g ≡ true → same_form (nest f ks) (nest g ls) ≡ true
same_nest f g ks ls e s = same_in (nest f ks) (nest g ls) (ordered_nest f ks ∙ (λ i. nest (same_out f g s i) (e i)) ∙ sym (ordered_nest g ls))

pub same_parts : (f g : Form) (ks ls : List ℕ) → is_bare f ≡ false → is_bare g ≡ false → same_form (nest f ks) (nest g ls) ≡ true → (ks ≡ ls) × (same_form f g ≡ true)
same_parts f g ks ls p q s =
    let e : nest (ordered f) ks ≡ nest (ordered g) ls = sym (ordered_nest f ks) ∙ same_out (nest f ks) (nest g ls) s ∙ ordered_nest g ls in
    let a = more_ordered f ∙ p in
    let b = more_ordered g ∙ q in
    (sym (divisors_are (ordered f) ks a) ∙ ap divisors_of e ∙ divisors_are (ordered g) ls b, same_in f g (sym (base_is (ordered f) ks a) ∙ ap base_of e ∙ base_is (ordered g) ls b))

pub same_bool : (b : Bool) (f g : Form) (ks ls : List ℕ) → is_bare f ≡ false → is_bare g ≡ false → ks ≡ ls → b ≡ same_form f g → b ≡ same_form (nest f ks) (nest g ls)
same_bool true f g ks ls p q e s = sym (same_nest f g ks ls e (sym s))
same_bool false f g ks ls p q e s = by (same_form (nest f ks) (nest g ls)) refl
  where
    by : (d : Bool) → same_form (nest f ks) (nest g ls) ≡ d → false ≡ d
    by false w = refl
    by true w = absurd (let z : false ≡ true = s ∙ (same_parts f g ks ls p q w).1 in cc)

pub differ : (f g : Form) (ks ls : List ℕ) → is_bare f ≡ false → is_bare g ≡ false → (ks ≡ ls → ⊥) → false ≡ same_form (nest f ks) (nest g ls)
differ f g ks ls p q n = by (same_form (nest f ks) (nest g ls)) refl
  where
    by : (d : Bool) → same_form (nest f ks) (nest g ls) ≡ d → false ≡ d
    by false w = refl
    by true w = absurd (n (same_parts f g ks ls p q w).0)

-- ---- forms put for their fields

pub alone : (h : Form) (k : ℕ) → form_of_sum (add_form (pos 1) (remainder_form h k) (started (pos 0))) ≡ remainder_form h k
alone (form c [] no_remainders) k = ap (λ z. form z [] no_remainders) (once (modulo c k))
  where
    once : (z : ℤ) → pos 0 +ℤ (pos 1 *ℤ z) ≡ z
    once z = omega (arith, ints)
alone (form c (t ∷ ts) rs) k = refl
alone (form c [] (remainder a f m rs)) k = refl

pub subst_bare : (f : Form) (k : ℕ) (gs : List Form) → subst_form (bare f k) gs ≡ remainder_form (subst_form f gs) k
subst_bare f k gs = alone (subst_form f gs) k

pub outside_nest : (f : Form) (ks : List ℕ) (gs : List Form) (n : ℤ) → IsOutsideAfter f gs n → IsOutsideAfter (nest f ks) gs n
outside_nest f [] gs n o = o
outside_nest f (k ∷ ks) gs n o = outside_nest (bare f k) ks gs n (inr (inl o))

pub none_bare : (f : Form) (k : ℕ) (gs : List Form) → ((n : ℤ) → IsOutsideAfter f gs n → ⊥) → ((n : ℤ) → IsOutside (remainder_form (subst_form f gs) k) n → ⊥) → (n : ℤ) → IsOutsideAfter (bare f k) gs n → ⊥
none_bare f k gs h own n (inl o) = own n (subst (λ g. IsOutside g n) (subst_bare f k gs) o)
none_bare f k gs h own n (inr (inl o)) = h n o
none_bare f k gs h own n (inr (inr o)) = absurd o

-- ---- made simpler

pub simpler_bare : (f : Form) (k : ℕ) → simpler_sum (bare f k) ≡ add_form (pos 1) (remainder_form (form_of_sum (inside k (simpler_sum f))) k) (started (pos 0))
simpler_bare f k = refl

pub open_bare : (m : ℕ) (c : ℤ) (f : Form) (k : ℕ) (s : Sum) → add_open m c (bare f k) s ≡ add_term_open m c f k s
open_bare m c f k s = λ i. cond (k % m == 0) (add_open m (times i) f (same i)) (add_term (times i) f k (same i))
  where
    times : c *ℤ pos 1 ≡ c
    times = omega (arith, ints)

    constant : s.constant +ℤ (c *ℤ pos 0) ≡ s.constant
    constant = omega (arith, ints)

    same : add_outer c (pos 0) [] s ≡ s
    same = λ i. record { constant = constant i; totals = s.totals; terms = s.terms }

-- ---- whether a form is a remainder, and nothing more

pub constant_not : (c : ℤ) (ts : List Term) (rs : Remainders) → (c ≡ pos 0 → ⊥) → is_bare (form c ts rs) ≡ false
constant_not c (t ∷ ts) rs n = refl
constant_not c [] no_remainders n = refl
constant_not c [] (remainder a f k no_remainders) n = by (int_eq c (pos 0)) refl
  where
    by : (b : Bool) → int_eq c (pos 0) ≡ b → (b && int_eq a (pos 1)) ≡ false
    by true e = absurd (n (int_eq-out c (pos 0) e))
    by false e = refl
constant_not c [] (remainder a f k (remainder b g m rs)) n = refl

pub fields_not : (c : ℤ) (ts : List Term) (rs : Remainders) → (ts ≡ [] → ⊥) → is_bare (form c ts rs) ≡ false
fields_not c [] rs n = absurd (n refl)
fields_not c (t ∷ ts) rs n = refl

pub count_not : (c : ℤ) (ts : List Term) (rs : Remainders) → (count rs ≡ 1 → ⊥) → is_bare (form c ts rs) ≡ false
count_not c (t ∷ ts) rs n = refl
count_not c [] no_remainders n = refl
count_not c [] (remainder a f k no_remainders) n = absurd (n refl)
count_not c [] (remainder a f k (remainder b g m rs)) n = refl

pub bare_is : (c : ℤ) (ts : List Term) (rs : List RemTerm) (d : RemTerm) → c ≡ pos 0 → ts ≡ [] → length rs ≡ 1 → is_bare (form c ts (plain_remainders rs)) ≡ int_eq (get_or rs 0 d).coefficient (pos 1)
bare_is c ts [] d z e l = absurd (omega arith)
bare_is c ts (x ∷ y ∷ rs) d z e l = absurd (omega arith)
bare_is c ts (x ∷ []) d z e l =
    let zero : int_eq c (pos 0) ≡ true = grind (arith, ints) in
    ap (λ us. is_bare (form c us (remainder x.coefficient x.inner x.divisor no_remainders))) e ∙ ap (λ b. b && int_eq x.coefficient (pos 1)) zero

-- ---- a remainder by one more divisor

-- a form that is a remainder, and nothing more, is its only term
pub bare_term : (c : ℤ) (ts : List Term) (rs : List RemTerm) (d : RemTerm) → is_bare (form c ts (plain_remainders rs)) ≡ true → form c ts (plain_remainders rs) ≡ bare (get_or rs 0 d).inner (get_or rs 0 d).divisor
bare_term c (t ∷ ts) rs d e = absurd (let z : false ≡ true = e in cc)
bare_term c [] [] d e = absurd (let z : false ≡ true = e in cc)
bare_term c [] (x ∷ y ∷ rs) d e = absurd (let z : false ≡ true = e in cc)
bare_term c [] (x ∷ []) d e =
    let p = both_out (int_eq c (pos 0)) (int_eq x.coefficient (pos 1)) e in
    let first = int_eq-out c (pos 0) p.0 in
    let second = int_eq-out x.coefficient (pos 1) p.1 in
    λ i. form (first i) [] (remainder (second i) x.inner x.divisor no_remainders)

-- ---- what a dividend is seen as

pub seen_base : (d f : Form) (ks : List ℕ) → is_bare f ≡ false → nest f ks ≡ d → base_of d ≡ f
seen_base d f ks n e = sym (ap base_of e) ∙ base_is f ks n

pub seen_divisors : (d f : Form) (ks : List ℕ) → is_bare f ≡ false → nest f ks ≡ d → divisors_of d ≡ ks
seen_divisors d f ks n e = sym (ap divisors_of e) ∙ divisors_are f ks n

pub seen_whole : (i : ℕ) (d f : Form) (ks items : List ℕ) → is_bare f ≡ false → nest f ks ≡ d → items ≡ ks → length items ≤ i → nest_front i (base_of d) items ≡ d
seen_whole i d f ks items n e is l = (λ j. nest_front i (seen_base d f ks n e j) (is j)) ∙ front_all i f ks (let same = ap length is in omega arith) ∙ e

pub seen_next : (i : ℕ) (f : Form) (ks : List ℕ) (d : ℕ) → i < length ks → nest_front (i + 1) f ks ≡ bare (nest_front i f ks) (get_or ks i d)
seen_next i f ks d h = ap (λ n. nest_front n f ks) (add-one i) ∙ front_step i f ks d h

-- ---- nothing of a remainder is outside

pub remainder_inside : (h : Form) (k : ℕ) → 0 < k → k ≤ greatest_divisor → (n : ℤ) → IsOutside (remainder_form h k) n → ⊥
remainder_inside (form c [] no_remainders) k l g n (inl o) = o.1 (subst IsLabelNumber (sym o.0) (let m = modulo_small c k l g in omega (arith, ints)))
remainder_inside (form c [] no_remainders) k l g n (inr o) = elim o.0 as (λ _. ⊥) [ inl x ↦ x | inr x ↦ x ]
remainder_inside (form c (t ∷ ts) rs) k l g n (inl o) = o.1 (subst IsLabelNumber (sym o.0) (omega (arith, ints)))
remainder_inside (form c (t ∷ ts) rs) k l g n (inr o) = elim o.0 as (λ _. ⊥) [ inl x ↦ x | inr x ↦ one n x o.1 ]
  where
    one : (n : ℤ) → IsOfRemainders n (remainder (pos 1) (form c (t ∷ ts) rs) k no_remainders) → (IsCoefficient n → ⊥) → ⊥
    one n (inl e) o = o (subst IsCoefficient (sym e) (omega arith))
    one n (inr e) o = e
remainder_inside (form c [] (remainder a f m rs)) k l g n (inl o) = o.1 (subst IsLabelNumber (sym o.0) (omega (arith, ints)))
remainder_inside (form c [] (remainder a f m rs)) k l g n (inr o) = elim o.0 as (λ _. ⊥) [ inl x ↦ x | inr x ↦ one n x o.1 ]
  where
    one : (n : ℤ) → IsOfRemainders n (remainder (pos 1) (form c [] (remainder a f m rs)) k no_remainders) → (IsCoefficient n → ⊥) → ⊥
    one n (inl e) o = o (subst IsCoefficient (sym e) (omega arith))
    one n (inr e) o = e

pub gives_way : (m : ℕ) (c : ℤ) (f : Form) (k : ℕ) (s : Sum) → k % m ≡ 0 → add_open m c f s ≡ add_open m c (bare f k) s
gives_way m c f k s e = sym (ap (λ b. cond b (add_open m c f s) (add_term c f k s)) (eq-eqb (k % m) 0 e)) ∙ sym (open_bare m c f k s)

-- ---- a remainder of a form that is more than one

pub sound_over : (n : ℕ) (f : Form) (k : ℕ) → IsSound n f → is_bare f ≡ false → n + 1 ≤ deepest → 0 < k → k ≤ greatest_divisor → IsSound (n + 1) (bare f k)
sound_over n (form c ts rs) k s e l h g =
    let f = form c ts rs in
    let over : depth_over f ≡ suc (depth f) = ap (λ b. cond b (depth f) (suc (depth f))) e in
    let own = s.depth in
    let some : pos 1 ≡ pos 0 → ⊥ = λ z. absurd (omega (arith, ints)) in
    record {
      form = (omega (arith, ints), tt, (some, omega arith, h, g, tt), (tt, tt));
      inner = ((sound_whole n f s, omega arith), tt);
      depth = omega arith;
    }

-- ---- a form by its parts

pub parts_nest : (f : Form) → nest (base_of f) (divisors_of f) ≡ f
parts_nest (form c (t ∷ ts) rs) = refl
parts_nest (form c [] no_remainders) = refl
parts_nest (form c [] (remainder a f k (remainder b g m rs))) = refl
parts_nest (form c [] (remainder a f k no_remainders)) = by (int_eq c (pos 0) && int_eq a (pos 1)) refl (parts_nest f)
  where
    whole : Form
    whole = form c [] (remainder a f k no_remainders)

    by : (b : Bool) → (int_eq c (pos 0) && int_eq a (pos 1)) ≡ b → nest (base_of f) (divisors_of f) ≡ f → nest (cond b (base_of f) whole) (cond b (divisors_of f ++ (k ∷ [])) []) ≡ whole
    by false e h = refl
    by true e h =
        let p = both_out (int_eq c (pos 0)) (int_eq a (pos 1)) e in
        let first = int_eq-out c (pos 0) p.0 in
        let second = int_eq-out a (pos 1) p.1 in
        nest_end (base_of f) (divisors_of f) k ∙ (λ i. form (sym first i) [] (remainder (sym second i) (h i) k no_remainders))

pub base_lower : (f : Form) → height (base_of f) ≤ height f
base_lower f = let low = base_falls (base_of f) (divisors_of f) in let same = ap height (parts_nest f) in omega arith

pub alone_base : (f : Form) → divisors_of f ≡ [] → base_of f ≡ f
alone_base f e = sym (ap (λ ks. nest (base_of f) ks) e) ∙ parts_nest f

-- the last divisor, and what its remainder is taken of
pub last_part : (f : Form) (i d : ℕ) → i + 1 ≡ length (divisors_of f) → bare (nest_front i (base_of f) (divisors_of f)) (get_or (divisors_of f) i d) ≡ f
last_part f i d e = sym (seen_next i (base_of f) (divisors_of f) d (omega arith)) ∙ front_all (i + 1) (base_of f) (divisors_of f) (omega arith) ∙ parts_nest f

-- what is the same of a form and of a remainder of it is the same of what is under
module _ {X : Type 0} (v : Form → X) (over : (f : Form) (k : ℕ) → v (bare f k) ≡ v f) where
  under_nest : (f : Form) (ks : List ℕ) → v (nest f ks) ≡ v f
  under_nest f [] = refl
  under_nest f (k ∷ ks) = under_nest (bare f k) ks ∙ over f k

  pub of_base : (f : Form) → v (base_of f) ≡ v f
  of_base f = sym (under_nest (base_of f) (divisors_of f)) ∙ ap v (parts_nest f)

-- the same where it depends on the divisor that a remainder is taken by, for the first divisor
module _ {X : Type 0} (v : ℕ → Form → X) (over : (m : ℕ) (f : Form) (k : ℕ) → v m (bare f k) ≡ v k f) where
  first_nest : (m : ℕ) (f : Form) (ks : List ℕ) → v m (nest f ks) ≡ v (get_or ks 0 m) f
  first_nest m f [] = refl
  first_nest m f (k ∷ ks) = first_nest m (bare f k) ks ∙ over (get_or ks 0 m) f k

  pub of_first : (m : ℕ) (f : Form) → v (get_or (divisors_of f) 0 m) (base_of f) ≡ v m f
  of_first m f = sym (first_nest m (base_of f) (divisors_of f)) ∙ ap (v m) (parts_nest f)
