-- Sums of forms by their coefficients: the one of a remainder is found by its inner form in order and its divisor.
use Rattle.std.proofs.Common.{◌≡◌, ℕ, ◌≤◌, ◌==◌, ◌&&◌, inl, inr, List, [], ◌∷◌, length, Bool, true, false, cond, refl, ap, ap₂, sym, subst, ◌∙◌, arith, eq-eqb, eqb-true}
use Rattle.std.proofs.lemmas.Bool.{and_from}
use Rattle.std.proofs.Math.IntN.{ℤ, pos, ◌+ℤ◌, ◌*ℤ◌}
use Rattle.std.proofs.lemmas.Int.{ints}
use Rattle.std.specs.Ordering.{int_cmp, int_eq, is_eq, is_gt}
use Rattle.std.specs.Cmp.Lexicographic.{slice_cmp}
use Rattle.math_int.proofs.Laws.{times-add}
use Rattle.model_form.specs.Form.{Form, Remainders, no_remainders, remainder}
use Rattle.model_form.specs.Same.{Item, IsIn, members, written, ordered, ordered_all, item_cmp, put}
use Rattle.model_form.specs.Sums.{is_like, add_like, add_remainders, without_zeros}
use Rattle.model_form.specs.Ranges.{IsApart, AreApart}
use Rattle.model_form.proofs.Written.{written_once, tied, tied_lists}
use Rattle.model_form.proofs.Sorted.{AreIn, AreOnce, sorted, taken, one_less, all_still_in}
use Rattle.model_form.proofs.Equals.{ordered_members, members_once, equal_by}
use Rattle.model_form.proofs.Values.{int_eq-out, both_out}

-- ---- whole numbers

more_none : (x : ℤ) → x +ℤ pos 0 ≡ x
more_none x = omega (arith, ints)

none_more : (x : ℤ) → pos 0 +ℤ x ≡ x
none_more x = omega (arith, ints)

gather : (x y z : ℤ) → x +ℤ (y +ℤ z) ≡ (x +ℤ y) +ℤ z
gather x y z = omega (arith, ints)

turned : (x y z : ℤ) → (x +ℤ y) +ℤ z ≡ (x +ℤ z) +ℤ y
turned x y z = omega (arith, ints)

swapped : (x y z : ℤ) → x +ℤ (y +ℤ z) ≡ y +ℤ (x +ℤ z)
swapped x y z = omega (arith, ints)

times_none : (by : ℤ) → by *ℤ pos 0 ≡ pos 0
times_none by = omega (arith, ints)

-- ---- the place of a remainder

-- the inner form, in order, and the divisor are these
abbrev is_at : Form → ℕ → Form → ℕ → Bool
is_at x k h m = (k == m) && is_eq (slice_cmp int_cmp (written x) (written h))

at_out : (x h : Form) (k m : ℕ) → is_at x k h m ≡ true → (x ≡ h) × (k ≡ m)
at_out x h k m e = let both = both_out (k == m) (is_eq (slice_cmp int_cmp (written x) (written h))) e in (written_once x h (tied _ _ (equal_by _ both.1)), eqb-true k m both.0)

at_in : (x h : Form) (k m : ℕ) → x ≡ h → k ≡ m → is_at x k h m ≡ true
at_in x h k m e f = and_from (k == m) (is_eq (slice_cmp int_cmp (written x) (written h))) (eq-eqb k m f) (ap is_eq (tied_lists (written x) (written h) (ap written e)))

true_is_not_false : (b : Bool) → b ≡ true → b ≡ false → ⊥
true_is_not_false b e f = let z : true ≡ false = sym e ∙ f in cc

false_by : (b : Bool) → (b ≡ true → ⊥) → b ≡ false
false_by true n = absurd (n refl)
false_by false n = refl

abbrev pub coefficient : List Item → Form → ℕ → ℤ
coefficient [] h m = pos 0
coefficient (x ∷ xs) h m = cond (is_at x.inner x.divisor h m) x.coefficient (pos 0) +ℤ coefficient xs h m

-- ---- what a sum's remainders have, once more are added

scaled : (b : Bool) (by a : ℤ) → cond b (by *ℤ a) (pos 0) ≡ by *ℤ cond b a (pos 0)
scaled true by a = refl
scaled false by a = sym (times_none by)

joined : (b : Bool) (a c r : ℤ) → cond b (a +ℤ c) (pos 0) +ℤ r ≡ (cond b a (pos 0) +ℤ r) +ℤ cond b c (pos 0)
joined true a c r = turned a c r
joined false a c r = sym (more_none (pos 0 +ℤ r))

pub add_like-coefficient : (c : ℤ) (g : Form) (k : ℕ) (rs : Remainders) (h : Form) (m : ℕ) → coefficient (members (add_like c g k rs)) h m ≡ coefficient (members rs) h m +ℤ cond (is_at (ordered g) k h m) c (pos 0)
add_like-coefficient c g k no_remainders h m = more_none (cond (is_at (ordered g) k h m) c (pos 0)) ∙ sym (none_more (cond (is_at (ordered g) k h m) c (pos 0)))
add_like-coefficient c g k (remainder a f j rs) h m = by (is_like f j g k) refl (add_like-coefficient c g k rs h m)
  where
    by : (b : Bool) → is_like f j g k ≡ b → coefficient (members (add_like c g k rs)) h m ≡ coefficient (members rs) h m +ℤ cond (is_at (ordered g) k h m) c (pos 0)
        → coefficient (members (cond b (remainder (a +ℤ c) f j rs) (remainder a f j (add_like c g k rs)))) h m ≡ coefficient (members (remainder a f j rs)) h m +ℤ cond (is_at (ordered g) k h m) c (pos 0)
    by false e rest = ap (λ z. cond (is_at (ordered f) j h m) a (pos 0) +ℤ z) rest ∙ gather (cond (is_at (ordered f) j h m) a (pos 0)) (coefficient (members rs) h m) (cond (is_at (ordered g) k h m) c (pos 0))
    by true e rest =
        let same = at_out (ordered f) (ordered g) j k e in
        joined (is_at (ordered f) j h m) a c (coefficient (members rs) h m) ∙ (λ i. coefficient (members (remainder a f j rs)) h m +ℤ cond (is_at (same.0 i) (same.1 i) h m) c (pos 0))

pub add_remainders-coefficient : (by : ℤ) (rs terms : Remainders) (h : Form) (m : ℕ) → coefficient (members (add_remainders by rs terms)) h m ≡ coefficient (members terms) h m +ℤ (by *ℤ coefficient (members rs) h m)
add_remainders-coefficient by no_remainders terms h m = sym (ap (λ z. coefficient (members terms) h m +ℤ z) (times_none by) ∙ more_none (coefficient (members terms) h m))
add_remainders-coefficient by (remainder a f k rs) terms h m =
    let b = is_at (ordered f) k h m in
    add_remainders-coefficient by rs (add_like (by *ℤ a) f k terms) h m
    ∙ ap (λ z. z +ℤ (by *ℤ coefficient (members rs) h m)) (add_like-coefficient (by *ℤ a) f k terms h m ∙ ap (λ z. coefficient (members terms) h m +ℤ z) (scaled b by a))
    ∙ sym (gather (coefficient (members terms) h m) (by *ℤ cond b a (pos 0)) (by *ℤ coefficient (members rs) h m))
    ∙ ap (λ z. coefficient (members terms) h m +ℤ z) (sym (times-add by (cond b a (pos 0)) (coefficient (members rs) h m)))

nothing_at : (b : Bool) (a r : ℤ) → a ≡ pos 0 → cond b a (pos 0) +ℤ r ≡ r
nothing_at true a r e = ap (λ z. z +ℤ r) e ∙ none_more r
nothing_at false a r e = none_more r

pub without_zeros-coefficient : (rs : Remainders) (h : Form) (m : ℕ) → coefficient (members (without_zeros rs)) h m ≡ coefficient (members rs) h m
without_zeros-coefficient no_remainders h m = refl
without_zeros-coefficient (remainder a f k rs) h m = by (int_eq a (pos 0)) refl (without_zeros-coefficient rs h m)
  where
    by : (b : Bool) → int_eq a (pos 0) ≡ b → coefficient (members (without_zeros rs)) h m ≡ coefficient (members rs) h m
        → coefficient (members (cond b (without_zeros rs) (remainder a f k (without_zeros rs)))) h m ≡ coefficient (members (remainder a f k rs)) h m
    by false e rest = ap (λ z. cond (is_at (ordered f) k h m) a (pos 0) +ℤ z) rest
    by true e rest = rest ∙ sym (nothing_at (is_at (ordered f) k h m) a (coefficient (members rs) h m) (int_eq-out a (pos 0) e))

-- ---- in any order

put-coefficient : (x : Item) (ys : List Item) (h : Form) (m : ℕ) → coefficient (put item_cmp x ys) h m ≡ coefficient (x ∷ ys) h m
put-coefficient x [] h m = refl
put-coefficient x (y ∷ ys) h m = by (is_gt (item_cmp x y)) (put-coefficient x ys h m)
  where
    by : (b : Bool) → coefficient (put item_cmp x ys) h m ≡ coefficient (x ∷ ys) h m → coefficient (cond b (y ∷ put item_cmp x ys) (x ∷ y ∷ ys)) h m ≡ coefficient (x ∷ y ∷ ys) h m
    by false e = refl
    by true e =
        ap (λ z. cond (is_at y.inner y.divisor h m) y.coefficient (pos 0) +ℤ z) e
        ∙ swapped (cond (is_at y.inner y.divisor h m) y.coefficient (pos 0)) (cond (is_at x.inner x.divisor h m) x.coefficient (pos 0)) (coefficient ys h m)

sorted-coefficient : (xs : List Item) (h : Form) (m : ℕ) → coefficient (sorted item_cmp xs) h m ≡ coefficient xs h m
sorted-coefficient [] h m = refl
sorted-coefficient (x ∷ xs) h m = put-coefficient x (sorted item_cmp xs) h m ∙ ap (λ z. cond (is_at x.inner x.divisor h m) x.coefficient (pos 0) +ℤ z) (sorted-coefficient xs h m)

pub same_coefficients : (rs qs : Remainders) → ordered_all rs ≡ ordered_all qs → (h : Form) (m : ℕ) → coefficient (members rs) h m ≡ coefficient (members qs) h m
same_coefficients rs qs e h m =
    let in_order : (ps : Remainders) → coefficient (members ps) h m ≡ coefficient (ordered_all ps) h m = λ ps. sym (sorted-coefficient (members ps) h m) ∙ ap (λ xs. coefficient xs h m) (sym (ordered_members ps)) in
    in_order rs ∙ ap (λ xs. coefficient xs h m) e ∙ sym (in_order qs)

-- ---- no two at one place

add_like_in : (f : Form) (k : ℕ) (c : ℤ) (g : Form) (m : ℕ) (rs : Remainders) → IsApart f k rs → is_like f k g m ≡ false → IsApart f k (add_like c g m rs)
add_like_in f k c g m no_remainders h n = (n, tt)
add_like_in f k c g m (remainder b e j rs) h n = by (is_like e j g m) (add_like_in f k c g m rs h.1 n)
  where
    by : (x : Bool) → IsApart f k (add_like c g m rs) → IsApart f k (cond x (remainder (b +ℤ c) e j rs) (remainder b e j (add_like c g m rs)))
    by true rest = h
    by false rest = (h.0, rest)

pub add_like_apart : (c : ℤ) (g : Form) (m : ℕ) (rs : Remainders) → AreApart rs → AreApart (add_like c g m rs)
add_like_apart c g m no_remainders h = (tt, tt)
add_like_apart c g m (remainder a f k rs) h = by (is_like f k g m) refl (add_like_apart c g m rs h.1)
  where
    by : (b : Bool) → is_like f k g m ≡ b → AreApart (add_like c g m rs) → AreApart (cond b (remainder (a +ℤ c) f k rs) (remainder a f k (add_like c g m rs)))
    by true e rest = h
    by false e rest = (add_like_in f k c g m rs h.0 e, rest)

pub add_remainders_apart : (by : ℤ) (rs terms : Remainders) → AreApart terms → AreApart (add_remainders by rs terms)
add_remainders_apart by no_remainders terms h = h
add_remainders_apart by (remainder a f k rs) terms h = add_remainders_apart by rs (add_like (by *ℤ a) f k terms) (add_like_apart (by *ℤ a) f k terms h)

pub fewer_apart : (f : Form) (k : ℕ) (rs : Remainders) → IsApart f k rs → IsApart f k (without_zeros rs)
fewer_apart f k no_remainders h = tt
fewer_apart f k (remainder b g m rs) h = by (int_eq b (pos 0)) (fewer_apart f k rs h.1)
  where
    by : (x : Bool) → IsApart f k (without_zeros rs) → IsApart f k (cond x (without_zeros rs) (remainder b g m (without_zeros rs)))
    by true rest = rest
    by false rest = (h.0, rest)

pub without_zeros_apart : (rs : Remainders) → AreApart rs → AreApart (without_zeros rs)
without_zeros_apart no_remainders h = tt
without_zeros_apart (remainder a f k rs) h = by (int_eq a (pos 0)) (without_zeros_apart rs h.1)
  where
    by : (x : Bool) → AreApart (without_zeros rs) → AreApart (cond x (without_zeros rs) (remainder a f k (without_zeros rs)))
    by true rest = rest
    by false rest = (fewer_apart f k rs h.0, rest)

-- ---- members by their coefficients

-- an item that is apart from all is at no place of theirs
elsewhere : (f : Form) (k : ℕ) (rs : Remainders) → IsApart f k rs → (x : Item) → IsIn x (members rs) → is_at (ordered f) k x.inner x.divisor ≡ false
elsewhere f k no_remainders h x at = absurd at
elsewhere f k (remainder b g m rs) h x (inl e) = subst (λ y. is_at (ordered f) k y.inner y.divisor ≡ false) (sym e) h.0
elsewhere f k (remainder b g m rs) h x (inr at) = elsewhere f k rs h.1 x at

none_there : (f : Form) (k : ℕ) (rs : Remainders) → IsApart f k rs → coefficient (members rs) (ordered f) k ≡ pos 0
none_there f k no_remainders h = refl
none_there f k (remainder b g m rs) h =
    let n : is_at (ordered g) m (ordered f) k ≡ false = false_by _ (λ e. let same = at_out (ordered g) (ordered f) m k e in true_is_not_false _ (at_in (ordered f) (ordered g) k m (sym same.0) (sym same.1)) h.0) in
    ap (λ x. cond x b (pos 0) +ℤ coefficient (members rs) (ordered f) k) n ∙ none_more (coefficient (members rs) (ordered f) k) ∙ none_there f k rs h.1

-- a member's coefficient is what is found at its place
pub at_member : (rs : Remainders) → AreApart rs → (x : Item) → IsIn x (members rs) → coefficient (members rs) x.inner x.divisor ≡ x.coefficient
at_member no_remainders h x at = absurd at
at_member (remainder a f k rs) h x (inl e) =
    subst (λ y. coefficient (members (remainder a f k rs)) y.inner y.divisor ≡ y.coefficient) (sym e)
    (ap₂ (λ b z. cond b a (pos 0) +ℤ z) (at_in (ordered f) (ordered f) k k refl refl) (none_there f k rs h.0) ∙ more_none a)
at_member (remainder a f k rs) h x (inr at) =
    ap (λ b. cond b a (pos 0) +ℤ coefficient (members rs) x.inner x.divisor) (elsewhere f k rs h.0 x at) ∙ none_more (coefficient (members rs) x.inner x.divisor) ∙ at_member rs h.1 x at

-- where something is found there is a member
member_at : (xs : List Item) (h : Form) (m : ℕ) → ¬ (coefficient xs h m ≡ pos 0) → (x : Item) × IsIn x xs × (x.inner ≡ h) × (x.divisor ≡ m)
member_at [] h m some = absurd (some refl)
member_at (x ∷ xs) h m some = by (is_at x.inner x.divisor h m) refl some (member_at xs h m)
  where
    by : (b : Bool) → is_at x.inner x.divisor h m ≡ b → ¬ (cond b x.coefficient (pos 0) +ℤ coefficient xs h m ≡ pos 0) → (¬ (coefficient xs h m ≡ pos 0) → (y : Item) × IsIn y xs × (y.inner ≡ h) × (y.divisor ≡ m))
        → (y : Item) × IsIn y (x ∷ xs) × (y.inner ≡ h) × (y.divisor ≡ m)
    by true e some' rest = let same = at_out x.inner h x.divisor m e in (x, inl refl, same.0, same.1)
    by false e some' rest = let (y, at, f, g) = rest (λ none. some' (none_more (coefficient xs h m) ∙ none)) in (y, inr at, f, g)

not_zero : (a : ℤ) → int_eq a (pos 0) ≡ false → ¬ (a ≡ pos 0)
not_zero a e f = grind (arith, ints)

pub none_is_zero : (rs : Remainders) (x : Item) → IsIn x (members (without_zeros rs)) → ¬ (x.coefficient ≡ pos 0)
none_is_zero no_remainders x at = absurd at
none_is_zero (remainder a f k rs) x at = by (int_eq a (pos 0)) refl (none_is_zero rs x) at
  where
    by : (b : Bool) → int_eq a (pos 0) ≡ b → (IsIn x (members (without_zeros rs)) → ¬ (x.coefficient ≡ pos 0)) → IsIn x (members (cond b (without_zeros rs) (remainder a f k (without_zeros rs)))) → ¬ (x.coefficient ≡ pos 0)
    by true e rest at' = rest at'
    by false e rest (inl same) = subst (λ y. ¬ (y.coefficient ≡ pos 0)) (sym same) (not_zero a e)
    by false e rest (inr at') = rest at'

-- ---- the same coefficients are the same members

all_in : (xs ys : List Item) → ((x : Item) → IsIn x xs → IsIn x ys) → AreIn xs ys
all_in [] ys f = tt
all_in (x ∷ xs) ys f = (f x (inl refl), all_in xs ys (λ y at. f y (inr at)))

module _ (rs qs : Remainders) (own : AreApart rs) (other : AreApart qs) (some : (x : Item) → IsIn x (members rs) → ¬ (x.coefficient ≡ pos 0)) (same : (h : Form) (m : ℕ) → coefficient (members rs) h m ≡ coefficient (members qs) h m) where
  over : (x : Item) → IsIn x (members rs) → IsIn x (members qs)
  over x at =
      let here = at_member rs own x at in
      let (y, there, e, f) = member_at (members qs) x.inner x.divisor (λ none. some x at (sym here ∙ same x.inner x.divisor ∙ none)) in
      let g : y.coefficient ≡ x.coefficient = sym (at_member qs other y there) ∙ ap₂ (λ h m. coefficient (members qs) h m) e f ∙ sym (same x.inner x.divisor) ∙ here in
      let one : y ≡ x = λ i. record { coefficient = g i; inner = e i; divisor = f i } in
      subst (λ z. IsIn z (members qs)) one there

  pub members_over : AreIn (members rs) (members qs)
  members_over = all_in (members rs) (members qs) over

-- no more of them than of those among which they are, where none stands twice
fewer : (xs ys : List Item) → AreOnce xs → AreIn xs ys → length xs ≤ length ys
fewer [] ys once among = omega arith
fewer (x ∷ xs) ys once among =
    let (zs, without) = taken x ys among.0 in
    let rest : length xs ≤ length zs = fewer xs zs once.1 (all_still_in x xs ys zs without among.1 once.0) in
    omega (arith, rest, one_less x ys zs without)

pub as_many : (rs qs : Remainders) → AreApart rs → AreApart qs → AreIn (members rs) (members qs) → AreIn (members qs) (members rs) → length (members rs) ≡ length (members qs)
as_many rs qs own other to back = omega (arith, fewer (members rs) (members qs) (members_once rs own) to, fewer (members qs) (members rs) (members_once qs other) back)
