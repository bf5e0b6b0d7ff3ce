-- Forms whose inner forms may stand in remainders.
use Rattle.std.proofs.Common.{◌≡◌, ℕ, zero, suc, ◌<◌, ◌≤◌, List, [], ◌∷◌, length, get_or, Bool, true, false, cond, refl, subst, sym, arith}
use Rattle.std.proofs.Math.IntN.{ℤ, pos, ◌+ℤ◌, ◌*ℤ◌}
use Rattle.std.specs.Ordering.{int_eq}
use Rattle.model_form.specs.Form.{Form, form, Term, Remainders, no_remainders, remainder}
use Rattle.model_form.specs.Over.{AreBelow, AreOver, AreDivided}
use Rattle.model_form.specs.Ranges.{AreFields, AreRemainders}
use Rattle.model_form.specs.Simpler.{reduced_terms}
use Rattle.model_form.specs.Sums.{add_like, add_remainders, is_like, scaled_remainders, without_zeros}
use Rattle.lin_form.specs.declared.form.RemTerm.{RemTerm}
use Rattle.lin_form.specs.declared.sum.Like.{Like}
use Rattle.lin_form.specs.Terms.{plain_remainders}
use Rattle.lin_form.specs.Gathered.{plain_likes}
use Rattle.lin_form.specs.Nest.{depths}
use Rattle.lin_form.specs.Whole.{IsWhole, IsInner, AreInner, IsSound, deepest}

-- ---- what is so of the form

below : (n : ℕ) (ts : List Term) → AreFields n ts → AreBelow 8 ts
below n [] h = tt
below n (t ∷ ts) h = (h.1, below (suc t.field) ts h.4)

inner_over : (rs : Remainders) → AreInner rs → AreOver 8 rs
inner_over no_remainders i = tt
inner_over (remainder a f k rs) i = (i.0.0.over, inner_over rs i.1)

inner_divided : (rs : Remainders) → AreRemainders rs → AreInner rs → AreDivided rs
inner_divided no_remainders h i = tt
inner_divided (remainder a f k rs) h i = (h.2, i.0.0.divided, inner_divided rs h.4 i.1)

pub inner_low : (rs : Remainders) → AreInner rs → depths rs ≤ deepest
inner_low no_remainders i = omega arith
inner_low (remainder a f k rs) i = let low = i.0.1 in let rest = inner_low rs i.1 in omega arith

pub sound_whole : (n : ℕ) (f : Form) → IsSound n f → IsWhole f
sound_whole n (form c ts rs) s = record {
  over = (below 0 ts s.form.1, inner_over rs s.inner);
  divided = inner_divided rs s.form.2 s.inner;
  low = (let low = inner_low rs s.inner in omega arith);
}

-- ---- terms that are changed

pub scaled_inner : (by : ℤ) (rs : Remainders) → AreInner rs → AreInner (scaled_remainders by rs)
scaled_inner by no_remainders i = tt
scaled_inner by (remainder a f k rs) i = (i.0, scaled_inner by rs i.1)

pub scaled_depths : (by : ℤ) (rs : Remainders) → depths (scaled_remainders by rs) ≡ depths rs
scaled_depths by no_remainders = refl
scaled_depths by (remainder a f k rs) = let e = scaled_depths by rs in omega arith

pub reduced_inner : (m : ℕ) (rs : Remainders) → AreInner rs → AreInner (reduced_terms m rs)
reduced_inner m no_remainders i = tt
reduced_inner m (remainder a f k rs) i = (i.0, reduced_inner m rs i.1)

pub without_zeros_inner : (rs : Remainders) → AreInner rs → AreInner (without_zeros rs)
without_zeros_inner no_remainders i = tt
without_zeros_inner (remainder a f k rs) i = by (int_eq a (pos 0)) (without_zeros_inner rs i.1)
  where
    by : (b : Bool) → AreInner (without_zeros rs) → AreInner (cond b (without_zeros rs) (remainder a f k (without_zeros rs)))
    by true r = r
    by false r = (i.0, r)

pub add_like_inner : (c : ℤ) (g : Form) (m : ℕ) (rs : Remainders) → IsInner g → AreInner rs → AreInner (add_like c g m rs)
add_like_inner c g m no_remainders h i = (h, tt)
add_like_inner c g m (remainder a f k rs) h i = by (is_like f k g m) (add_like_inner c g m rs h i.1)
  where
    by : (b : Bool) → AreInner (add_like c g m rs) → AreInner (cond b (remainder (a +ℤ c) f k rs) (remainder a f k (add_like c g m rs)))
    by true r = i
    by false r = (i.0, r)

pub add_remainders_inner : (by : ℤ) (rs terms : Remainders) → AreInner rs → AreInner terms → AreInner (add_remainders by rs terms)
add_remainders_inner by no_remainders terms h i = i
add_remainders_inner by (remainder a f k rs) terms h i = add_remainders_inner by rs (add_like (by *ℤ a) f k terms) h.1 (add_like_inner (by *ℤ a) f k terms h.0 i)

-- ---- terms that a loop is at

module _ {X : Type 0} (inner : X → Form) (plain : List X → Remainders) (parts : (t : X) (ts : List X) → AreInner (plain (t ∷ ts)) → IsInner (inner t) × AreInner (plain ts)) where
  at_place : (ts : List X) (k : ℕ) (d : X) → AreInner (plain ts) → k < length ts → IsInner (inner (get_or ts k d))
  at_place [] k d i l = absurd (omega arith)
  at_place (t ∷ ts) zero d i l = (parts t ts i).0
  at_place (t ∷ ts) (suc k) d i l = at_place ts k d (parts t ts i).1 (omega arith)

  item : (ts items : List X) (k : ℕ) (t : X) → AreInner (plain ts) → items ≡ ts → t ≡ get_or items k t → k < length items → IsInner (inner t)
  item ts items k t i e is l = subst (λ x. IsInner (inner x)) (sym is) (at_place items k t (subst (λ us. AreInner (plain us)) (sym e) i) l)

pub inner_item : (ts items : List RemTerm) (k : ℕ) (t : RemTerm) → AreInner (plain_remainders ts) → items ≡ ts → t ≡ get_or items k t → k < length items → IsInner t.inner
inner_item = item (λ t. t.inner) plain_remainders (λ t ts i. i)

pub like_item : (ts items : List Like) (k : ℕ) (t : Like) → AreInner (plain_likes ts) → items ≡ ts → t ≡ get_or items k t → k < length items → IsInner t.inner
like_item = item (λ t. t.inner) plain_likes (λ t ts i. i)
