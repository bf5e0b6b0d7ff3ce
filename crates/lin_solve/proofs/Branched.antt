-- Branches of values, and what is put for fields in them.
use Rattle.std.proofs.Common.{◌≡◌, ◌≢◌, ◌⊎◌, inl, inr, ℕ, zero, suc, ◌<◌, ◌+◌, List, [], ◌∷◌, ◌++◌, length, take, get_or, Bool, true, false, refl, ap, sym, ◌∙◌, subst, arith}
use Rattle.std.proofs.Math.IntN.{ℤ, pos, ◌+ℤ◌, ◌*ℤ◌}
use Rattle.std.specs.Prelude.{◌<ℤ◌, ◌≤ℤ◌, int_lt, FitsSigned}
use Rattle.std.specs.Int.{w64}
use Rattle.std.proofs.Math.ListN.{set}
use Rattle.std.proofs.lemmas.Int.{ints}
use Rattle.std.proofs.lemmas.List.{take_more}
use Rattle.std.proofs.lemmas.List.Elements.{All-nil, All-cons, All-append}
use Rattle.model_form.specs.Form.{Form, form, Term, value, fields_of}
use Rattle.model_form.specs.Sums.{field_form, number_form, product_form, sum_form}
use Rattle.model_form.specs.Meaning.{AreLow, AreFormsLow, values_of}
use Rattle.model_form.proofs.Values.{product_form-value, sum_form-value}
use Rattle.lin_form.specs.declared.sum.Signed.{Signed}
use Rattle.lin_form.specs.Gathered.{plain_parts}
use Rattle.lin_solve.proofs.Gapped.{number_value}
use Rattle.model_form.specs.Ranges.{AreFields, IsForm}
use Rattle.std.specs.Prelude.{IfOk, MatchResult}
use Rattle.std.proofs.Common.{Result, Ok, Err}
use Rattle.math_cooper.specs.System.{Condition, Holds, Solves}
use Rattle.fast_fault.specs.declared.memory.Memory.{Memory}
use Rattle.lin_reduce.specs.declared.nodes.Explored.{Explored}
use Rattle.lin_reduce.specs.declared.nodes.Explored.TheVariants as explored
use Rattle.lin_reduce.specs.Parts.{TellsNever}
use Rattle.model_chain.specs.Literals.{Literal, Relation, less, equal, related, compare_holds}
use Rattle.label_core.specs.declared.theory.Lit.{Lit}
use Rattle.lin_solve.specs.declared.compare.Compare.{Compare}
use Rattle.lin_solve.specs.Plain.{plain_compare, plain_literal}
use Rattle.lin_solve.proofs.Cased.{set_here}

-- ---- what is put for fields

pub field_value : (k : ℕ) (vs : List ℤ) → value (field_form k) vs ≡ get_or vs k (pos 0)
field_value k vs = omega (arith, ints)

pub low_form : (f : Form) → IsForm f → AreLow (fields_of f)
low_form (form c ts rs) h = fields 0 ts h.1
  where
    fields : (n : ℕ) (ts : List Term) → AreFields n ts → AreLow ts
    fields n [] h = tt
    fields n (t ∷ ts) h = (h.1, fields (suc t.field) ts h.4)

-- a sum of the one and the other
pub more_value : (f g : Form) (us : List ℤ) (parts : List Signed) → parts ≡ record { minus = false; form = f } ∷ record { minus = false; form = g } ∷ [] → IsForm f → IsForm g → value (sum_form (plain_parts parts)) us ≡ value f us +ℤ value g us
more_value f g us parts e p q =
    ap (λ ps. value (sum_form (plain_parts ps)) us) e
    ∙ sum_form-value (plain_parts (record { minus = false; form = f } ∷ record { minus = false; form = g } ∷ [])) us (low_form f p, (low_form g q, tt))
    ∙ whole (value f us) (value g us)
  where
    whole : (x y : ℤ) → (pos 1 *ℤ x) +ℤ ((pos 1 *ℤ y) +ℤ pos 0) ≡ x +ℤ y
    whole x y = omega (arith, ints)

pub moved_value : (t k n : ℕ) (f g : Form) (vs : List ℤ) → f ≡ product_form (pos t) (field_form k) → g ≡ number_form (pos n) → value f vs +ℤ value g vs ≡ (pos t *ℤ get_or vs k (pos 0)) +ℤ pos n
moved_value t k n f g vs e d =
    (λ i. value (e i) vs +ℤ value (d i) vs)
    ∙ (λ i. (product_form-value (pos t) (field_form k) vs ∙ ap (λ z. pos t *ℤ z) (field_value k vs)) i +ℤ number_value (pos n) vs i)

module _ {T E : Type 0} where
  pub ok_weaker : (r : Result T E) (P : T → Type 0) (Q : E → Type 0) (R : T → Type 0) → ((x : T) → P x → R x) → MatchResult r P Q → IfOk r R
  ok_weaker (Ok x) P Q R f h = f x h
  ok_weaker (Err e) P Q R f h = tt

pub low_push : (gs : List Form) (g : Form) → AreFormsLow gs → AreLow (fields_of g) → AreFormsLow (gs ++ g ∷ [])
low_push [] g h l = (l, tt)
low_push (f ∷ gs) g h l = (h.0, low_push gs g h.1 l)

pub values_push : (gs : List Form) (g : Form) (vs : List ℤ) → values_of (gs ++ g ∷ []) vs ≡ values_of gs vs ++ value g vs ∷ []
values_push [] g vs = refl
values_push (f ∷ gs) g vs = ap (λ xs. value f vs ∷ xs) (values_push gs g vs)

set_twice : (us : List ℤ) (k : ℕ) (x y : ℤ) → set (set us k x) k y ≡ set us k y
set_twice [] k x y = refl
set_twice (u ∷ us) zero x y = refl
set_twice (u ∷ us) (suc k) x y = ap (λ xs. u ∷ xs) (set_twice us k x y)

pub set_same : (us : List ℤ) (k : ℕ) → set us k (get_or us k (pos 0)) ≡ us
set_same [] k = refl
set_same (u ∷ us) zero = refl
set_same (u ∷ us) (suc k) = ap (λ xs. u ∷ xs) (set_same us k)

-- where the field is so many times a number and a rest, it is made again of the number
pub back : (us : List ℤ) (k t n : ℕ) (q : ℤ) → k < length us → get_or us k (pos 0) ≡ (pos t *ℤ q) +ℤ pos n → set (set us k q) k ((pos t *ℤ get_or (set us k q) k (pos 0)) +ℤ pos n) ≡ us
back us k t n q low e =
    (λ i. set (set us k q) k ((pos t *ℤ set_here us k q (pos 0) low i) +ℤ pos n))
    ∙ set_twice us k q ((pos t *ℤ q) +ℤ pos n) ∙ ap (set us k) (sym e) ∙ set_same us k

-- ---- fewer conditions

pub solves_pushed : (vs : List ℤ) (S : List Condition) (x : Condition) → Solves vs S → Holds vs x → Solves vs (S ++ x ∷ [])
solves_pushed vs S x h own = All-append (Holds vs) S (x ∷ []) h (All-cons (Holds vs) x [] own (All-nil (Holds vs)))

pub never_loosened : (n : ℕ) (S K : List Condition) (r : Result Explored Memory) → ((vs : List ℤ) → Solves vs S → Solves vs K) → IfOk r (TellsNever n K) → IfOk r (TellsNever n S)
never_loosened n S K (Ok explored.Never) f h = λ s. h (s.0, s.1, f s.0 s.2)
never_loosened n S K (Ok (explored.Maybe values)) f h = tt
never_loosened n S K (Ok explored.Open) f h = tt
never_loosened n S K (Err m) f h = tt

pub one_more : (gs hs : List Form) (g : Form) (vs target : List ℤ) (k : ℕ) → hs ≡ gs ++ g ∷ [] → k < length target → value g vs ≡ get_or target k (pos 0) → values_of gs vs ≡ take k target → values_of hs vs ≡ take (k + 1) target
one_more gs hs g vs target k e low own old =
    ap (λ xs. values_of xs vs) e ∙ values_push gs g vs ∙ (λ i. old i ++ own i ∷ []) ∙ sym (take_more target k (pos 0) low)

module _ {T E : Type 0} where
  pub ok_map : (r : Result T E) (P R : T → Type 0) → ((x : T) → P x → R x) → IfOk r P → IfOk r R
  ok_map (Ok x) P R f h = f x h
  ok_map (Err e) P R f h = tt

-- ---- a field beside a number

pub literal_so : {k : ℕ} {r : Relation} {n : ℤ} {sign : Bool} (l : Lit Compare) (us : List ℤ) → plain_literal l ≡ record { compare = record { left = field_form k; relation = r; right = number_form n }; positive = sign } → related r (get_or us k (pos 0)) n ≡ sign → compare_holds (plain_compare l.atom) us ≡ l.sign
literal_so {k} {r} {n} {sign} l us e h =
    subst (λ (x : Literal). compare_holds x.compare us ≡ x.positive) (sym e) ((λ i. related r (field_value k us i) (number_value n us i)) ∙ h)

pub less_holds : (k : ℕ) (n : ℤ) (us : List ℤ) → get_or us k (pos 0) <ℤ n → related less (get_or us k (pos 0)) n ≡ true
less_holds k n us l = grind (arith, ints)

pub not_less_holds : (k : ℕ) (n : ℤ) (us : List ℤ) → n ≤ℤ get_or us k (pos 0) → related less (get_or us k (pos 0)) n ≡ false
not_less_holds k n us l = grind (arith, ints)

pub equal_holds : (k : ℕ) (n : ℤ) (us : List ℤ) → get_or us k (pos 0) ≡ n → related equal (get_or us k (pos 0)) n ≡ true
equal_holds k n us e = grind (arith, ints)

pub below_or_same : (x v : ℤ) → x <ℤ (v +ℤ pos 1) → (x <ℤ v) ⊎ (x ≡ v)
below_or_same x v l = by (int_lt x v) refl
  where
    by : (b : Bool) → int_lt x v ≡ b → (x <ℤ v) ⊎ (x ≡ v)
    by true e = inl (omega (arith, ints))
    by false e = inr (omega (arith, ints))

pub same_or_another : (x v : ℤ) → (x ≡ v) ⊎ (x ≢ v)
same_or_another x v = by (int_lt x v) refl (int_lt v x) refl
  where
    by : (b : Bool) → int_lt x v ≡ b → (d : Bool) → int_lt v x ≡ d → (x ≡ v) ⊎ (x ≢ v)
    by true e d f = inr (λ s. omega (arith, ints))
    by false e true f = inr (λ s. omega (arith, ints))
    by false e false f = inl (omega (arith, ints))

pub before_or_from : (x t v : ℤ) → int_lt v t ≡ false → (x <ℤ v) ⊎ (t ≤ℤ x)
before_or_from x t v past = by (int_lt x v) refl
  where
    by : (b : Bool) → int_lt x v ≡ b → (x <ℤ v) ⊎ (t ≤ℤ x)
    by true e = inl (omega (arith, ints))
    by false e = inr (omega (arith, ints))

pub fits_next : (v t : ℤ) → FitsSigned w64 v → FitsSigned w64 t → int_lt v t ≡ true → FitsSigned w64 (v +ℤ pos 1)
fits_next v t f g l = grind (arith, ints)
