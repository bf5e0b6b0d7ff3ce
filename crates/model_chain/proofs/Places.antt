-- The places of the new variables, and that a form's linear value is its value.
use Rattle.std.proofs.Common.{◌≡◌, ℕ, suc, ◌+◌, ◌<◌, ◌≤◌, ⊎_elim, List, [], ◌∷◌, ◌++◌, length, length-append, get_or, Bool, true, false, cond, ◌||◌, ◌==◌, arith, refl, ap, sym, ◌∙◌, subst, append_assoc}
use Rattle.std.proofs.Math.IntN.{ℤ, pos, ◌+ℤ◌, ◌*ℤ◌}
use Rattle.std.proofs.lemmas.Bool.{cases_lt, eqb-true, eq-eqb, and_from}
use Rattle.std.proofs.lemmas.List.{get_or_append_left, get_or_at, append-nil}
use Rattle.model_form.specs.Form.{Form, form, Remainders, no_remainders, remainder, value, remainders_value, terms_value, modulo}
use Rattle.model_form.specs.Same.{same_form}
use Rattle.model_form.specs.Over.{IsOver, AreOver}
use Rattle.model_form.proofs.Equals.{same_in, same_value}
use Rattle.model_form.proofs.Values.{both_out}
use Rattle.model_chain.specs.Literals.{Remainder, is_same, is_in, place, with_one, seen, seen_all, seen_in, Literal, AreLiteralsOver}
use Rattle.model_chain.proofs.Rows.{places_value, ArePlaced, IsPlaced, linear_value}

-- ---- a place

same_itself : (r : Remainder) → is_same r r ≡ true
same_itself r = and_from (r.divisor == r.divisor) (same_form r.inner r.inner) (eq-eqb r.divisor r.divisor refl) (same_in r.inner r.inner refl)

pub place_in : (r : Remainder) (R : List Remainder) → is_in r R ≡ true → place r R < length R
place_in r [] e = absurd cc
place_in r (s ∷ R) e = by (is_same r s) (place_in r R) e
  where
    by : (b : Bool) → (is_in r R ≡ true → place r R < length R) → b || is_in r R ≡ true → cond b 0 (suc (place r R)) < suc (length R)
    by true f e = omega arith
    by false f e = let q = f e in omega arith

pub place_kept : (r : Remainder) (R T : List Remainder) → place r R < length R → place r (R ++ T) ≡ place r R
place_kept r [] T h = absurd (omega arith)
place_kept r (s ∷ R) T h = by (is_same r s) (place_kept r R T) h
  where
    by : (b : Bool) → (place r R < length R → place r (R ++ T) ≡ place r R) → cond b 0 (suc (place r R)) < suc (length R) → cond b 0 (suc (place r (R ++ T))) ≡ cond b 0 (suc (place r R))
    by true f h = refl
    by false f h = ap suc (f (omega arith))

place_own : (r : Remainder) (R : List Remainder) → place r (R ++ r ∷ []) < length R + 1
place_own r [] = by (is_same r r) (same_itself r)
  where
    by : (b : Bool) → b ≡ true → cond b 0 1 < 0 + 1
    by true e = omega arith
    by false e = absurd cc
place_own r (s ∷ R) = by (is_same r s) (place_own r R)
  where
    by : (b : Bool) → place r (R ++ r ∷ []) < length R + 1 → cond b 0 (suc (place r (R ++ r ∷ []))) < suc (length R) + 1
    by true q = omega arith
    by false q = omega arith

pub place_like : (r : Remainder) (R : List Remainder) (d : Remainder) → place r R < length R → is_same r (get_or R (place r R) d) ≡ true
place_like r [] d h = absurd (omega arith)
place_like r (s ∷ R) d h = by (is_same r s) refl (place_like r R d) h
  where
    by : (b : Bool) → is_same r s ≡ b → (place r R < length R → is_same r (get_or R (place r R) d) ≡ true) → cond b 0 (suc (place r R)) < suc (length R) → is_same r (get_or (s ∷ R) (cond b 0 (suc (place r R))) d) ≡ true
    by true e f h = e
    by false e f h = f (omega arith)

-- ---- placed forms

pub placed_up : (R : List Remainder) (m n : ℕ) (rs : Remainders) → m ≤ n → ArePlaced R m rs → ArePlaced R n rs
placed_up R m n no_remainders l h = tt
placed_up R m n (remainder a f k rs) l h = let q = h.0 in (omega arith, placed_up R m n rs l h.1)

pub placed_on : (R T : List Remainder) (n : ℕ) (rs : Remainders) → n ≤ length R → ArePlaced R n rs → ArePlaced (R ++ T) n rs
placed_on R T n no_remainders l h = tt
placed_on R T n (remainder a f k rs) l h =
    let q = h.0 in let e = place_kept (record { inner = f; divisor = k }) R T (omega arith) in (omega arith, placed_on R T n rs l h.1)

pub form_on : (R T : List Remainder) (m n : ℕ) (f : Form) → m ≤ length R → m ≤ n → IsPlaced R m f → IsPlaced (R ++ T) n f
form_on R T m n (form c ts rs) l k h = (h.0, placed_up (R ++ T) m n rs k (placed_on R T m rs l h.1))

-- each inner form has its remainders at earlier places
abbrev pub IsClosed : List Remainder → Type 0
IsClosed R = (p : ℕ) (d : Remainder) → p < length R → IsPlaced R p (get_or R p d).inner

-- ---- what is seen

pub record Goes (R S : List Remainder) : Type 0 where
  pub more : List Remainder
  pub is : S ≡ R ++ more

goes_same : (R : List Remainder) → Goes R R
goes_same R = record { more = []; is = sym (append-nil R) }

goes_on : (R S T : List Remainder) → Goes R S → Goes S T → Goes R T
goes_on R S T g h = record { more = g.more ++ h.more; is = h.is ∙ ap (λ L. L ++ h.more) g.is ∙ append_assoc R g.more h.more }

pub goes_length : (R S : List Remainder) → Goes R S → length R ≤ length S
goes_length R S g = omega (arith, ap length g.is, length-append R g.more)

pub form_goes : (R S : List Remainder) (f : Form) → Goes R S → IsPlaced R (length R) f → IsPlaced S (length S) f
form_goes R S f g h = subst (λ L. IsPlaced L (length S) f) (sym g.is) (form_on R g.more (length R) (length S) f (omega arith) (goes_length R S g) h)

pub record WithOne (r : Remainder) (R S : List Remainder) : Type 0 where
  pub goes : Goes R S
  pub closed : IsClosed S
  pub placed : place r S < length S

pushed_closed : (r : Remainder) (R : List Remainder) → IsClosed R → IsPlaced R (length R) r.inner → IsClosed (R ++ r ∷ [])
pushed_closed r R c h p d l =
    ⊎_elim
    (λ before. subst (λ s. IsPlaced (R ++ r ∷ []) p s.inner) (sym (get_or_append_left R (r ∷ []) d p before)) (form_on R (r ∷ []) p p (get_or R p d).inner (omega arith) (omega arith) (c p d before)))
    (λ after.
    let e : length R ≡ p = omega (arith, length-append R (r ∷ [])) in
    subst (λ s. IsPlaced (R ++ r ∷ []) p s.inner) (sym (get_or_at R r [] d p e)) (form_on R (r ∷ []) (length R) p r.inner (omega arith) (omega arith) h))
    (cases_lt p (length R))

pub with_one-is : (r : Remainder) (R : List Remainder) → IsClosed R → IsPlaced R (length R) r.inner → WithOne r R (with_one r R)
with_one-is r R c h = by (is_in r R) refl
  where
    by : (b : Bool) → is_in r R ≡ b → WithOne r R (cond b R (R ++ r ∷ []))
    by true e = record { goes = goes_same R; closed = c; placed = place_in r R e }
    by false e = record { goes = record { more = r ∷ []; is = refl }; closed = pushed_closed r R c h; placed = omega (arith, place_own r R, length-append R (r ∷ [])) }

pub record Seen (f : Form) (R S : List Remainder) : Type 0 where
  pub goes : Goes R S
  pub closed : IsClosed S
  pub placed : IsPlaced S (length S) f

pub record SeenAll (rs : Remainders) (R S : List Remainder) : Type 0 where
  pub goes : Goes R S
  pub closed : IsClosed S
  pub placed : ArePlaced S (length S) rs

after : (a : ℤ) (f : Form) (k : ℕ) (rs : Remainders) (R : List Remainder) → Seen f R (seen f R) → ((S : List Remainder) → IsClosed S → SeenAll rs S (seen_all rs S)) → SeenAll (remainder a f k rs) R (seen_all (remainder a f k rs) R)
after a f k rs R inner rest =
    let r : Remainder = record { inner = f; divisor = k } in
    let S = seen f R in
    let one = with_one-is r S inner.closed inner.placed in
    let last = rest (with_one r S) one.closed in
    let T = seen_all rs (with_one r S) in
    let here : place r T < length T = omega (arith, ap (place r) last.goes.is, place_kept r (with_one r S) last.goes.more one.placed, one.placed, goes_length (with_one r S) T last.goes) in
    record { goes = goes_on R (with_one r S) T (goes_on R S (with_one r S) inner.goes one.goes) last.goes; closed = last.closed; placed = (here, last.placed) }

mutual
  pub seen-is : (f : Form) (R : List Remainder) → IsOver 8 f → IsClosed R → Seen f R (seen f R)
  seen-is (form c ts rs) R o h = let r = seen_all-is rs R o.1 h in record { goes = r.goes; closed = r.closed; placed = (o, r.placed) }

  pub seen_all-is : (rs : Remainders) (R : List Remainder) → AreOver 8 rs → IsClosed R → SeenAll rs R (seen_all rs R)
  seen_all-is no_remainders R o h = record { goes = goes_same R; closed = h; placed = tt }
  seen_all-is (remainder a f k rs) R o h = after a f k rs R (seen-is f R o.0 h) (λ S c. seen_all-is rs S o.1 c)

-- both sides of each literal are placed
abbrev pub AreLiteralsPlaced : List Remainder → List Literal → Type 0
AreLiteralsPlaced R [] = Unit {0}
AreLiteralsPlaced R (l ∷ ls) = IsPlaced R (length R) l.compare.left × IsPlaced R (length R) l.compare.right × AreLiteralsPlaced R ls

pub record SeenIn (ls : List Literal) (R S : List Remainder) : Type 0 where
  pub goes : Goes R S
  pub closed : IsClosed S
  pub placed : AreLiteralsPlaced S ls

pub seen_in-is : (ls : List Literal) (R : List Remainder) → AreLiteralsOver 8 ls → IsClosed R → SeenIn ls R (seen_in ls R)
seen_in-is [] R o c = record { goes = goes_same R; closed = c; placed = tt }
seen_in-is (l ∷ ls) R o c =
    let S = seen l.compare.left R in
    let T = seen l.compare.right S in
    let left = seen-is l.compare.left R o.0 c in
    let right = seen-is l.compare.right S o.1 left.closed in
    let rest = seen_in-is ls T o.2 right.closed in
    let U = seen_in ls T in
    record {
      goes = goes_on R T U (goes_on R S T left.goes right.goes) rest.goes;
      closed = rest.closed;
      placed = (form_goes S U l.compare.left (goes_on S T U right.goes rest.goes) left.placed, form_goes T U l.compare.right rest.goes right.placed, rest.placed);
    }

pub none_closed : IsClosed []
none_closed p d l = absurd (omega arith)

-- ---- values

-- each of the first n new variables has the value of its remainder
abbrev pub AreRight : List Remainder → List ℤ → ℕ → Type 0
AreRight R vs n = (p : ℕ) (d : Remainder) → p < n → get_or vs (8 + p) (pos 0) ≡ modulo (value (get_or R p d).inner vs) (get_or R p d).divisor

like_value : (r s : Remainder) (vs : List ℤ) → is_same r s ≡ true → modulo (value s.inner vs) s.divisor ≡ modulo (value r.inner vs) r.divisor
like_value r s vs e =
    let q = both_out (r.divisor == s.divisor) (same_form r.inner s.inner) e in
    λ i. modulo (sym (same_value r.inner s.inner vs q.1) i) (sym (eqb-true r.divisor s.divisor q.0) i)

pub placed_value : (R : List Remainder) (n : ℕ) (rs : Remainders) (vs : List ℤ) → n ≤ length R → ArePlaced R n rs → AreRight R vs n → places_value R rs vs ≡ remainders_value rs vs
placed_value R n no_remainders vs l p h = refl
placed_value R n (remainder a f k rs) vs l p h =
    let r : Remainder = record { inner = f; divisor = k } in
    let q = p.0 in
    let own : get_or vs (8 + place r R) (pos 0) ≡ modulo (value f vs) k = h (place r R) r p.0 ∙ like_value r (get_or R (place r R) r) vs (place_like r R r (omega arith)) in
    λ i. (a *ℤ own i) +ℤ placed_value R n rs vs l p.1 h i

pub linear_is_value : (R : List Remainder) (n : ℕ) (f : Form) (vs : List ℤ) → n ≤ length R → IsPlaced R n f → AreRight R vs n → linear_value R f vs ≡ value f vs
linear_is_value R n (form c ts rs) vs l p h = ap (λ z. c +ℤ (terms_value ts vs +ℤ z)) (placed_value R n rs vs l p.1 h)
