-- Cases of values, told apart by remainders.
use Rattle.std.proofs.Common.{◌≡◌, ◌≢◌, ◌⊎◌, inl, inr, ℕ, zero, suc, ◌<◌, ◌≤◌, ◌+◌, ◌*◌, ◌%◌, ◌/◌, ◌==◌, List, [], ◌∷◌, length, get_or, Bool, true, false, not, refl, ap, sym, ◌∙◌, subst, arith}
use Rattle.std.proofs.Math.IntN.{ℤ, pos, ◌+ℤ◌, ◌*ℤ◌}
use Rattle.std.proofs.Math.Nat.{div-add-mod'}
use Rattle.std.proofs.Math.ListN.{set}
use Rattle.std.proofs.lemmas.Int.{ints}
use Rattle.std.proofs.lemmas.Bool.{eqb-true, eqb-false, not-false, or_parts, cases_lt}
use Rattle.std.proofs.lemmas.Bool.Decides.{eqb_tells}
use Rattle.std.proofs.Math.Dec.{eqb}
use mathlib.Core.Bool.{beq}
use Rattle.math_int.proofs.Laws.{times-add, times-assoc, times-comm, divide}
use Rattle.model_form.specs.Form.{Form, form, Term, Remainders, no_remainders, remainder, value, remainders_value, terms_value, modulo}
use Rattle.model_form.proofs.Modulo.{modulo_apart, modulo_sum, modulo_product}
use Rattle.model_chain.specs.Literals.{compare_holds, related}
use Rattle.label_core.specs.declared.theory.Lit.{Lit}
use Rattle.lin_solve.specs.declared.compare.Compare.{Compare}
use Rattle.lin_solve.specs.Plain.{plain_compare, plain_relation}
use Rattle.lin_solve.specs.declared.cases.Case.{Case}
use Rattle.lin_solve.specs.declared.cases.Turn.{Turn}
use Rattle.lin_solve.specs.Cases.{is_loose, some_loose, is_open, some_open, IsIn, IsPart}

-- ---- forms that aren't open have one value in a case, or one remainder

module _ (c : Case) (us : List ℤ) (h : IsIn c us) where
  field_alike : (by n : ℕ) → 0 < by → (get_or c.steps n 0 % by == 0) ≡ true → modulo (get_or us n (pos 0)) by ≡ modulo (get_or c.rests n (pos 0)) by
  field_alike by n some e =
      let s = get_or c.steps n 0 in
      let z : s % by ≡ 0 = eqb-true (s % by) 0 e in
      let d = div-add-mod' s by in
      let whole : s ≡ by * (s / by) = omega arith in
      let q = (h n).0 in
      let times : pos s *ℤ q ≡ pos by *ℤ (pos (s / by) *ℤ q) = ap (λ m. pos m *ℤ q) whole ∙ times-assoc (pos by) (pos (s / by)) q in
      modulo_apart by (get_or us n (pos 0)) (get_or c.rests n (pos 0)) (pos (s / by) *ℤ q) some ((h n).1 ∙ ap (λ y. get_or c.rests n (pos 0) +ℤ y) times)

  not_loose : (by n : ℕ) → is_loose c.steps by n ≡ false → (0 < by) × ((get_or c.steps n 0 % by == 0) ≡ true)
  not_loose zero n e = absurd cc
  not_loose (suc k) n e = (omega arith, not-false (get_or c.steps n 0 % suc k == 0) (or_parts (suc k == 0) (not (get_or c.steps n 0 % suc k == 0)) e).1)

  terms_alike : (by : ℕ) (ts : List Term) → some_loose c.steps by ts ≡ false → modulo (terms_value ts us) by ≡ modulo (terms_value ts c.rests) by
  terms_alike by [] e = refl
  terms_alike by (t ∷ ts) e =
      let b = or_parts (is_loose c.steps by t.field) (some_loose c.steps by ts) e in
      let own = not_loose by t.field b.0 in
      let u = get_or us t.field (pos 0) in
      let r = get_or c.rests t.field (pos 0) in
      let first : modulo (t.coefficient *ℤ u) by ≡ modulo (t.coefficient *ℤ r) by =
      ap (λ z. modulo z by) (times-comm t.coefficient u) ∙ modulo_product by u r t.coefficient own.0 (field_alike by t.field own.0 own.1) ∙ ap (λ z. modulo z by) (times-comm r t.coefficient) in
      modulo_sum by (t.coefficient *ℤ u) (t.coefficient *ℤ r) (terms_value ts us) (terms_value ts c.rests) own.0 first (terms_alike by ts b.1)

  mutual
    open_alike : (by : ℕ) (f : Form) → is_open c.steps by f ≡ false → modulo (value f us) by ≡ modulo (value f c.rests) by
    open_alike by (form k [] rs) e = ap (λ z. modulo (k +ℤ (pos 0 +ℤ z)) by) (all_alike rs e)
    open_alike by (form k (t ∷ ts) rs) e =
        let b = or_parts (some_loose c.steps by (t ∷ ts)) (some_open c.steps rs) e in
        let some = (not_loose by t.field (or_parts (is_loose c.steps by t.field) (some_loose c.steps by ts) b.0).0).0 in
        let inner = ap (λ z. modulo z by) (all_alike rs b.1) in
        modulo_sum by k k (terms_value (t ∷ ts) us +ℤ remainders_value rs us) (terms_value (t ∷ ts) c.rests +ℤ remainders_value rs c.rests) some refl
        (modulo_sum by (terms_value (t ∷ ts) us) (terms_value (t ∷ ts) c.rests) (remainders_value rs us) (remainders_value rs c.rests) some (terms_alike by (t ∷ ts) b.0) inner)

    all_alike : (rs : Remainders) → some_open c.steps rs ≡ false → remainders_value rs us ≡ remainders_value rs c.rests
    all_alike no_remainders e = refl
    all_alike (remainder a f k rs) e =
        let b = or_parts (is_open c.steps k f) (some_open c.steps rs) e in
        λ i. (a *ℤ open_alike k f b.0 i) +ℤ all_alike rs b.1 i

  fixed_alike : (f : Form) → is_open c.steps 0 f ≡ false → value f us ≡ value f c.rests
  fixed_alike (form k [] rs) e = ap (λ z. k +ℤ (pos 0 +ℤ z)) (all_alike rs e)
  fixed_alike (form k (t ∷ ts) rs) e = absurd cc

past_end : (us : List ℤ) (k : ℕ) → length us ≤ k → get_or us k (pos 0) ≡ pos 0
past_end [] k l = refl
past_end (u ∷ us) zero l = absurd (omega arith)
past_end (u ∷ us) (suc k) l = past_end us k (omega arith)

module _ {A : Type 0} where
  pub set_here : (xs : List A) (k : ℕ) (x d : A) → k < length xs → get_or (set xs k x) k d ≡ x
  set_here [] k x d l = absurd (omega arith)
  set_here (y ∷ ys) zero x d l = refl
  set_here (y ∷ ys) (suc k) x d l = set_here ys k x d (omega arith)

  pub set_there : (xs : List A) (k j : ℕ) (x d : A) → (j ≡ k → ⊥) → get_or (set xs k x) j d ≡ get_or xs j d
  set_there [] k j x d n = refl
  set_there (y ∷ ys) zero zero x d n = absurd (n refl)
  set_there (y ∷ ys) zero (suc j) x d n = refl
  set_there (y ∷ ys) (suc k) zero x d n = refl
  set_there (y ∷ ys) (suc k) (suc j) x d n = set_there ys k j x d (λ e. n (ap suc e))

-- a step further, as a multiple of the greater step
further : (r s n t q : ℤ) → r +ℤ (s *ℤ (n +ℤ (t *ℤ q))) ≡ (r +ℤ (s *ℤ n)) +ℤ ((s *ℤ t) *ℤ q)
further r s n t q =
    let a = times-add s n (t *ℤ q) in
    let b = times-assoc s t q in
    omega (arith, ints)

-- ---- parts of a case

pub part_in : (c p : Case) (t : Turn) (n : ℕ) (us : List ℤ) → t.field < length c.rests → t.field < length c.steps
    → p.rests ≡ set c.rests t.field (get_or c.rests t.field (pos 0) +ℤ (pos (get_or c.steps t.field 0) *ℤ pos n)) → p.steps ≡ set c.steps t.field (get_or c.steps t.field 0 * t.times)
    → IsPart c t n us → IsIn p us
part_in c p t n us lr ls er es h k = by (k == t.field) refl
  where
    r : ℤ
    r = get_or c.rests t.field (pos 0)

    s : ℕ
    s = get_or c.steps t.field 0

    by : (b : Bool) → (k == t.field) ≡ b → (q : ℤ) × (get_or us k (pos 0) ≡ get_or p.rests k (pos 0) +ℤ (pos (get_or p.steps k 0) *ℤ q))
    by true e =
        let is : k ≡ t.field = eqb-true k t.field e in
        let rest : get_or p.rests k (pos 0) ≡ r +ℤ (pos s *ℤ pos n) = (λ i. get_or (er i) (is i) (pos 0)) ∙ set_here c.rests t.field (r +ℤ (pos s *ℤ pos n)) (pos 0) lr in
        let step : get_or p.steps k 0 ≡ s * t.times = (λ i. get_or (es i) (is i) 0) ∙ set_here c.steps t.field (s * t.times) 0 ls in
        (h.1, ap (λ j. get_or us j (pos 0)) is ∙ h.2 ∙ further r (pos s) (pos n) (pos t.times) h.1 ∙ sym (λ i. rest i +ℤ (pos (step i) *ℤ h.1)))
    by false e =
        let not : k ≡ t.field → ⊥ = eqb-false k t.field e in
        let own = h.0 k in
        let rest : get_or p.rests k (pos 0) ≡ get_or c.rests k (pos 0) = (λ i. get_or (er i) k (pos 0)) ∙ set_there c.rests t.field k (r +ℤ (pos s *ℤ pos n)) (pos 0) not in
        let step : get_or p.steps k 0 ≡ get_or c.steps k 0 = (λ i. get_or (es i) k 0) ∙ set_there c.steps t.field k (s * t.times) 0 not in
        (own.0, own.1 ∙ sym (λ i. rest i +ℤ (pos (step i) *ℤ own.0)))

-- values of a case are in one of its parts
pub some_part : (c : Case) (t : Turn) (us : List ℤ) → 0 < t.times → IsIn c us → (n : ℕ) × (n < t.times) × IsPart c t n us
some_part c t us some h =
    let own = h t.field in
    let d = divide t.times some own.0 in
    let r = get_or c.rests t.field (pos 0) in
    let s = pos (get_or c.steps t.field 0) in
    let turned : own.0 ≡ pos d.1 +ℤ (pos t.times *ℤ d.0) = (let e = d.3 in omega (arith, ints)) in
    (d.1, d.2, (h, d.0, own.1 ∙ ap (λ z. r +ℤ (s *ℤ z)) turned))

-- a literal that is fixed in a case and doesn't hold at its rests holds nowhere in it
pub lost_in : (c : Case) (l : Lit Compare) (us : List ℤ) → IsIn c us → is_open c.steps 0 l.atom.left ≡ false → is_open c.steps 0 l.atom.right ≡ false
    → not (beq (compare_holds (plain_compare l.atom) c.rests) l.sign) ≡ true → compare_holds (plain_compare l.atom) us ≡ l.sign → ⊥
lost_in c l us h left right other own = unlike (compare_holds (plain_compare l.atom) c.rests) l.sign other (sym alike ∙ own)
  where
    alike : compare_holds (plain_compare l.atom) us ≡ compare_holds (plain_compare l.atom) c.rests
    alike = λ i. related (plain_relation l.atom.relation) (fixed_alike c us h l.atom.left left i) (fixed_alike c us h l.atom.right right i)

    unlike : (a b : Bool) → not (beq a b) ≡ true → a ≡ b → ⊥
    unlike true true o e = absurd cc
    unlike true false o e = absurd cc
    unlike false true o e = absurd cc
    unlike false false o e = absurd cc

-- ---- all values

one : (z : ℤ) → z ≡ pos 0 +ℤ (pos 1 *ℤ z)
one z = omega (arith, ints)

-- eight values are in the case of rests 0 and steps 1
pub all_in : (us : List ℤ) → length us ≡ 8 → (k : ℕ) → (q : ℤ) × (get_or us k (pos 0) ≡ get_or (pos 0 ∷ pos 0 ∷ pos 0 ∷ pos 0 ∷ pos 0 ∷ pos 0 ∷ pos 0 ∷ pos 0 ∷ []) k (pos 0) +ℤ (pos (get_or (1 ∷ 1 ∷ 1 ∷ 1 ∷ 1 ∷ 1 ∷ 1 ∷ 1 ∷ []) k 0) *ℤ q))
all_in us eight zero = (get_or us 0 (pos 0), one (get_or us 0 (pos 0)))
all_in us eight (suc zero) = (get_or us 1 (pos 0), one (get_or us 1 (pos 0)))
all_in us eight (suc (suc zero)) = (get_or us 2 (pos 0), one (get_or us 2 (pos 0)))
all_in us eight (suc (suc (suc zero))) = (get_or us 3 (pos 0), one (get_or us 3 (pos 0)))
all_in us eight (suc (suc (suc (suc zero)))) = (get_or us 4 (pos 0), one (get_or us 4 (pos 0)))
all_in us eight (suc (suc (suc (suc (suc zero))))) = (get_or us 5 (pos 0), one (get_or us 5 (pos 0)))
all_in us eight (suc (suc (suc (suc (suc (suc zero)))))) = (get_or us 6 (pos 0), one (get_or us 6 (pos 0)))
all_in us eight (suc (suc (suc (suc (suc (suc (suc zero))))))) = (get_or us 7 (pos 0), one (get_or us 7 (pos 0)))
all_in us eight (suc (suc (suc (suc (suc (suc (suc (suc k)))))))) = (pos 0, past_end us (suc (suc (suc (suc (suc (suc (suc (suc k)))))))) (omega arith))

-- ---- numbers of parts

pub below_or_last : (m n : ℕ) → m < n + 1 → (m < n) ⊎ (m ≡ n)
below_or_last m n l = by (cases_lt m n)
  where
    by : (m < n) ⊎ (n ≤ m) → (m < n) ⊎ (m ≡ n)
    by (inl k) = inl k
    by (inr k) = inr (omega arith)

pub same_or_other : (m n : ℕ) → (m ≡ n) ⊎ (m ≢ n)
same_or_other m n = by (eqb_tells m n)
  where
    by : ((eqb m n ≡ true) × (m ≡ n)) ⊎ ((eqb m n ≡ false) × (m ≢ n)) → (m ≡ n) ⊎ (m ≢ n)
    by (inl h) = inl h.1
    by (inr h) = inr h.1

pub part_is : (c : Case) (t : Turn) (us : List ℤ) (m n : ℕ) → m ≡ n → IsPart c t m us → IsPart c t n us
part_is c t us m n e h = subst (λ k. IsPart c t k us) e h
