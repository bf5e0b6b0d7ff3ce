-- Equal forms are over the same fields, and the value of a form depends on its fields alone.
use Rattle.std.proofs.Common.{◌≡◌, ℕ, ◌<◌, List, [], ◌∷◌, Bool, true, false, cond, refl, subst, get_or}
use Rattle.std.proofs.Math.IntN.{ℤ, pos, ◌+ℤ◌, ◌*ℤ◌}
use Rattle.std.specs.Ordering.{is_gt}
use Rattle.model_form.specs.Form.{Form, form, Remainders, no_remainders, remainder, Term, value, remainders_value, terms_value, modulo}
use Rattle.model_form.specs.Same.{Item, remainders, ordered, ordered_all, item_cmp, put, same_form}
use Rattle.model_form.specs.Over.{AreBelow, IsOver, AreOver}
use Rattle.model_form.proofs.Equals.{same_out}

-- ---- the order of the remainders doesn't matter

put_over : (n : ℕ) (x : Item) (ys : List Item) → IsOver n x.inner → AreOver n (remainders ys) → AreOver n (remainders (put item_cmp x ys))
put_over n x [] h i = (h, i)
put_over n x (y ∷ ys) h i = by (is_gt (item_cmp x y)) (put_over n x ys h i.1)
  where
    by : (b : Bool) → AreOver n (remainders (put item_cmp x ys)) → AreOver n (remainders (cond b (y ∷ put item_cmp x ys) (x ∷ y ∷ ys)))
    by false r = (h, i)
    by true r = (i.0, r)

over_put : (n : ℕ) (x : Item) (ys : List Item) → AreOver n (remainders (put item_cmp x ys)) → IsOver n x.inner × AreOver n (remainders ys)
over_put n x [] h = h
over_put n x (y ∷ ys) h = by (is_gt (item_cmp x y)) (over_put n x ys) h
  where
    by : (b : Bool) → (AreOver n (remainders (put item_cmp x ys)) → IsOver n x.inner × AreOver n (remainders ys)) → AreOver n (remainders (cond b (y ∷ put item_cmp x ys) (x ∷ y ∷ ys))) → IsOver n x.inner × AreOver n (remainders (y ∷ ys))
    by false r k = (k.0, k.1)
    by true r k = let q = r k.1 in (q.0, (k.0, q.1))

mutual
  pub over_in : (n : ℕ) (f : Form) → IsOver n f → IsOver n (ordered f)
  over_in n (form c ts rs) h = (h.0, over_in_all n rs h.1)

  pub over_in_all : (n : ℕ) (rs : Remainders) → AreOver n rs → AreOver n (remainders (ordered_all rs))
  over_in_all n no_remainders h = h
  over_in_all n (remainder a f k rs) h = put_over n (record { coefficient = a; inner = ordered f; divisor = k }) (ordered_all rs) (over_in n f h.0) (over_in_all n rs h.1)

mutual
  pub over_out : (n : ℕ) (f : Form) → IsOver n (ordered f) → IsOver n f
  over_out n (form c ts rs) h = (h.0, over_out_all n rs h.1)

  pub over_out_all : (n : ℕ) (rs : Remainders) → AreOver n (remainders (ordered_all rs)) → AreOver n rs
  over_out_all n no_remainders h = h
  over_out_all n (remainder a f k rs) h =
      let q = over_put n (record { coefficient = a; inner = ordered f; divisor = k }) (ordered_all rs) h in (over_out n f q.0, over_out_all n rs q.1)

-- a form that equals one over the first n fields is over them
pub over_same : (n : ℕ) (f g : Form) → same_form f g ≡ true → IsOver n f → IsOver n g
over_same n f g e h = over_out n g (subst (IsOver n) (same_out f g e) (over_in n f h))

-- ---- values

abbrev pub AgreeBelow : ℕ → List ℤ → List ℤ → Type 0
AgreeBelow n us vs = (k : ℕ) → k < n → get_or us k (pos 0) ≡ get_or vs k (pos 0)

pub terms_agree : (n : ℕ) (ts : List Term) (us vs : List ℤ) → AgreeBelow n us vs → AreBelow n ts → terms_value ts us ≡ terms_value ts vs
terms_agree n [] us vs a h = refl
terms_agree n (t ∷ ts) us vs a h = λ i. (t.coefficient *ℤ a t.field h.0 i) +ℤ terms_agree n ts us vs a h.1 i

mutual
  -- values that agree at the first n fields give a form over them one value
  pub value_agree : (n : ℕ) (f : Form) (us vs : List ℤ) → AgreeBelow n us vs → IsOver n f → value f us ≡ value f vs
  value_agree n (form c ts rs) us vs a h = λ i. c +ℤ (terms_agree n ts us vs a h.0 i +ℤ remainders_agree n rs us vs a h.1 i)

  pub remainders_agree : (n : ℕ) (rs : Remainders) (us vs : List ℤ) → AgreeBelow n us vs → AreOver n rs → remainders_value rs us ≡ remainders_value rs vs
  remainders_agree n no_remainders us vs a h = refl
  remainders_agree n (remainder b f k rs) us vs a h = λ i. (b *ℤ modulo (value_agree n f us vs a h.0 i) k) +ℤ remainders_agree n rs us vs a h.1 i
