-- Terms that lie in a list are members of its form.
use Rattle.std.proofs.Common.{◌≡◌, ℕ, zero, suc, ◌<◌, inl, inr, List, [], ◌∷◌, length, get_or, refl, ◌∙◌, arith}
use Rattle.std.proofs.Common.{Bool, true, ◌&&◌}
use Rattle.std.specs.Cmp.Lexicographic.{pointwise}
use Rattle.model_form.proofs.Values.{both_out}
use Rattle.model_form.specs.Form.{Form, Term}
use Rattle.model_form.specs.Same.{Item, members, IsIn, same_form}
use Rattle.model_form.proofs.Sorted.{AreIn}
use Rattle.lin_form.specs.declared.form.RemTerm.{RemTerm}
use Rattle.lin_form.specs.declared.form.FieldTerm.{FieldTerm}
use Rattle.lin_form.specs.Terms.{plain_fields, plain_remainders, member}

pub member_at : (ts : List RemTerm) (x : Item) (k : ℕ) (d : RemTerm) → k < length ts → x ≡ member (get_or ts k d) → IsIn x (members (plain_remainders ts))
member_at [] x k d h e = absurd (omega arith)
member_at (t ∷ ts) x zero d h e = inl e
member_at (t ∷ ts) x (suc k) d h e = inr (member_at ts x k d (omega arith) e)

pub place_of : (ts : List RemTerm) (x : Item) (d : RemTerm) → IsIn x (members (plain_remainders ts)) → (k : ℕ) × (k < length ts) × (x ≡ member (get_or ts k d))
place_of [] x d i = absurd i
place_of (t ∷ ts) x d (inl e) = (0, omega arith, e)
place_of (t ∷ ts) x d (inr i) = let r = place_of ts x d i in (suc r.0, (let l = r.1 in omega arith), r.2)

pub all_members : (ts : List RemTerm) (ys : List Item) → ((k : ℕ) (d : RemTerm) → k < length ts → IsIn (member (get_or ts k d)) ys) → AreIn (members (plain_remainders ts)) ys
all_members [] ys h = tt
all_members (t ∷ ts) ys h = (h 0 t (omega arith), all_members ts ys (λ k d l. h (suc k) d (omega arith)))

pub plain_fields_once : (ts us : List FieldTerm) → plain_fields ts ≡ plain_fields us → ts ≡ us
plain_fields_once [] [] e = refl
plain_fields_once [] (u ∷ us) e = absurd (cc)
plain_fields_once (t ∷ ts) [] e = absurd (cc)
plain_fields_once (t ∷ ts) (u ∷ us) e =
    let first : (let x : Term = record { field = t.field; coefficient = t.coefficient } in x) ≡ record { field = u.field; coefficient = u.coefficient } = cc in
    let rest : plain_fields ts ≡ plain_fields us = cc in
    let more = plain_fields_once ts us rest in
    λ i. record { field = (first i).field; coefficient = (first i).coefficient } ∷ more i

pub pointwise_out : {A : Type 0} (E : A → A → Bool) → ((x y : A) → E x y ≡ true → x ≡ y) → (xs ys : List A) → pointwise E xs ys ≡ true → xs ≡ ys
pointwise_out E f [] [] e = refl
pointwise_out E f [] (y ∷ ys) e = absurd (cc)
pointwise_out E f (x ∷ xs) [] e = absurd (cc)
pointwise_out E f (x ∷ xs) (y ∷ ys) e = let p = both_out (E x y) (pointwise E xs ys) e in let q = f x y p.0 in let r = pointwise_out E f xs ys p.1 in λ i. q i ∷ r i

pub pointwise_in : {A : Type 0} (E : A → A → Bool) → ((x : A) → E x x ≡ true) → (xs : List A) → pointwise E xs xs ≡ true
pointwise_in E f [] = refl
pointwise_in E f (x ∷ xs) = let p = f x in let q = pointwise_in E f xs in λ i. p i && q i

-- what is so of the forms that two values are
pub of_views : (b : Bool) (f g h k : Form) → f ≡ h → g ≡ k → b ≡ same_form f g → b ≡ same_form h k
of_views b f g h k p q e = e ∙ (λ i. same_form (p i) (q i))

-- an element is there whatever stands past the end
pub get_or-any : {A : Type 0} (xs : List A) (k : ℕ) (d e : A) → k < length xs → get_or xs k d ≡ get_or xs k e
get_or-any [] k d e h = absurd (omega arith)
get_or-any (x ∷ xs) zero d e h = refl
get_or-any (x ∷ xs) (suc k) d e h = get_or-any xs k d e (omega arith)
