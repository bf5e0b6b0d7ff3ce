-- The values of the forms that part two sides.
use Rattle.std.proofs.Common.{◌≡◌, ℕ, zero, suc, ◌<◌, List, [], ◌∷◌, ◌++◌, length, ◌==◌, get_or, true, false, Option, Some, None, Result, Ok, Err, refl, ap, sym, ◌∙◌, subst, arith}
use Rattle.std.specs.Prelude.{IfOk, IfSome}
use Rattle.std.proofs.Math.IntN.{ℤ, pos, negsuc, ◌+ℤ◌, ◌-ℤ◌, ◌*ℤ◌}
use Rattle.std.proofs.lemmas.Bool.{eqb-true}
use Rattle.std.proofs.lemmas.Int.{ints}
use Rattle.std.proofs.lemmas.List.{map-append, get_or-map, length-map}
use Rattle.std.proofs.lemmas.List.Elements.{All-append, All-cons, All-nil}
use Rattle.model_chain.specs.Literals.{compare_holds, HoldsAll}
use Rattle.label_core.specs.declared.theory.Lit.{Lit}
use Rattle.lin_solve.specs.declared.compare.Compare.{Compare}
use Rattle.lin_solve.specs.Plain.{plain_compare, plain_literal, plain_literals}
use Rattle.model_tree.specs.Range.{IsLabelNumber}
use Rattle.model_form.specs.Form.{Form, form, Remainders, no_remainders, remainder, Term, constant_of, fields_of, remainders_of, value}
use Rattle.model_form.specs.Sums.{sum_form, number_form}
use Rattle.model_form.specs.Ranges.{IsForm, AreFields}
use Rattle.model_form.specs.Meaning.{AreLow, values_of}
use Rattle.model_form.proofs.Values.{sum_form-value}
use Rattle.lin_form.specs.declared.form.FieldTerm.{FieldTerm}
use Rattle.lin_form.specs.declared.form.RemTerm.{RemTerm}
use Rattle.lin_form.specs.declared.sum.Signed.{Signed}
use Rattle.lin_form.specs.Gathered.{plain_parts}
use Rattle.lin_form.specs.Terms.{plain_fields, plain_remainders}
use Rattle.lin_solve.specs.declared.said.Fact.{Fact}
use Rattle.lin_solve.specs.Said.{IsSo, AreSo}
use Rattle.lin_solve.proofs.Saying.{so_more}

low_fields : (n : ℕ) (ts : List Term) → AreFields n ts → AreLow ts
low_fields n [] h = tt
low_fields n (t ∷ ts) h = (h.1, low_fields (suc t.field) ts h.4)

low : (f : Form) → IsForm f → AreLow (fields_of f)
low (form c ts rs) h = low_fields 0 ts h.1

pub constant_range : (f : Form) → IsForm f → IsLabelNumber (constant_of f)
constant_range (form c ts rs) h = h.0

-- a form without terms
pub alone_value : (f : Form) (ts : List FieldTerm) (rs : List RemTerm) (us : List ℤ) → plain_fields ts ≡ fields_of f → plain_remainders rs ≡ remainders_of f → (length ts == 0) ≡ true → (length rs == 0) ≡ true → value f us ≡ constant_of f
alone_value f (t ∷ ts) rs us e g n m = absurd (some (length ts) n)
  where
    some : (k : ℕ) → (suc k == 0) ≡ true → ⊥
    some k h = absurd (omega (arith, eqb-true (suc k) 0 h))
alone_value f [] (r ∷ rs) us e g n m = absurd (some (length rs) m)
  where
    some : (k : ℕ) → (suc k == 0) ≡ true → ⊥
    some k h = absurd (omega (arith, eqb-true (suc k) 0 h))
alone_value (form c [] no_remainders) [] [] us e g n m = omega (arith, ints)
alone_value (form c (v ∷ vs) qs) [] [] us e g n m = cc
alone_value (form c [] (remainder a f k qs)) [] [] us e g n m = cc

pub number_value : (c : ℤ) (us : List ℤ) → value (number_form c) us ≡ c
number_value c us = omega (arith, ints)

-- a sum of the one and the other, with a minus
pub less_value : (f g : Form) (us : List ℤ) (parts : List Signed) → parts ≡ record { minus = false; form = f } ∷ record { minus = true; form = g } ∷ [] → IsForm f → IsForm g → value (sum_form (plain_parts parts)) us ≡ value f us -ℤ value g us
less_value f g us parts e p q =
    ap (λ ps. value (sum_form (plain_parts ps)) us) e
    ∙ sum_form-value (plain_parts (record { minus = false; form = f } ∷ record { minus = true; form = g } ∷ [])) us (low f p, (low g q, tt))
    ∙ whole (value f us) (value g us)
  where
    whole : (x y : ℤ) → (pos 1 *ℤ x) +ℤ ((negsuc 0 *ℤ y) +ℤ pos 0) ≡ x -ℤ y
    whole x y = omega (arith, ints)

pub weaker : {T E : Type 0} (r : Result (Option T) E) (P Q : T → Type 0) → ((x : T) → P x → Q x) → IfOk r (λ o. IfSome o P) → IfOk r (λ o. IfSome o Q)
weaker (Ok (Some x)) P Q f h = f x h
weaker (Ok None) P Q f h = tt
weaker (Err e) P Q f h = tt

pub value_at : (gs : List Form) (k : ℕ) (d : Form) (us : List ℤ) → k < length gs → get_or (values_of gs us) k (pos 0) ≡ value (get_or gs k d) us
value_at [] k d us h = absurd (omega arith)
value_at (g ∷ gs) zero d us h = refl
value_at (g ∷ gs) (suc k) d us h = value_at gs k d us (omega arith)

pub last_value : (gs : List Form) (g : Form) (us : List ℤ) → get_or (values_of (gs ++ g ∷ []) us) (length gs) (pos 0) ≡ value g us
last_value [] g us = refl
last_value (h ∷ gs) g us = last_value gs g us

-- facts stay so where a form is added
pub so_after : (fs : List Fact) (gs : List Form) (g : Form) (us : List ℤ) → AreSo fs (values_of gs us) → AreSo fs (values_of (gs ++ g ∷ []) us)
so_after fs gs g us h = λ k d l. subst (λ vs. IsSo vs (get_or fs k d)) (sym (map-append (λ x. value x us) gs (g ∷ []))) (so_more (values_of gs us) (value g us) (get_or fs k d) (h k d l))

-- what is said of the value at a place
pub so_added : (fs gs : List Fact) (f : Fact) (vs : List ℤ) → gs ≡ fs ++ f ∷ [] → AreSo fs vs → IsSo vs f → AreSo gs vs
so_added fs gs f vs e h g = subst (λ xs. AreSo xs vs) (sym e) (All-append (IsSo vs) fs (f ∷ []) h (All-cons (IsSo vs) f [] g (All-nil (IsSo vs))))

pub literal_here : (ls : List (Lit Compare)) (i : ℕ) (x : Lit Compare) (us : List ℤ) → x ≡ get_or ls i x → i < length ls → HoldsAll (plain_literals ls) us → compare_holds (plain_compare x.atom) us ≡ x.sign
literal_here ls i x us e l h =
    let low : i < length (plain_literals ls) = (let m = length-map ls plain_literal in omega arith) in
    let same : get_or (plain_literals ls) i (plain_literal x) ≡ plain_literal x = get_or-map plain_literal ls i x (plain_literal x) l ∙ ap plain_literal (sym e) in
    subst (λ y. compare_holds y.compare us ≡ y.positive) same (h i (plain_literal x) low)
