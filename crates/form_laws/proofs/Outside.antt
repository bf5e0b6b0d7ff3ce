-- Equal forms have the same numbers, so the same ones are out of range.
use Rattle.std.proofs.Common.{◌≡◌, inl, inr, List, [], ◌∷◌, true, refl, ap, sym, subst, ◌∙◌}
use Rattle.std.proofs.Math.IntN.{ℤ}
use Rattle.model_form.specs.Form.{Form, form, Remainders, no_remainders, remainder}
use Rattle.model_form.specs.Same.{Item, IsIn, members, ordered, same_form}
use Rattle.model_form.specs.Ranges.{IsOfFields, IsOfRemainders, IsOutside}
use Rattle.model_form.proofs.Sorted.{AreIn}
use Rattle.model_form.proofs.Equals.{same_parts, same_remainders_out}

-- an element of a list whose elements are all in another
pub in_both : (xs ys : List Item) → AreIn xs ys → (x : Item) → IsIn x xs → IsIn x ys
in_both [] ys among x at = absurd at
in_both (y ∷ xs) ys among x (inl e) = subst (λ z. IsIn z ys) (sym e) among.0
in_both (y ∷ xs) ys among x (inr at) = in_both xs ys among.1 x at

member_with : (n : ℤ) (rs : Remainders) → IsOfRemainders n rs → (x : Item) × IsIn x (members rs) × (n ≡ x.coefficient)
member_with n no_remainders is = absurd is
member_with n (remainder a f k rs) (inl e) = (record { coefficient = a; inner = ordered f; divisor = k }, inl refl, e)
member_with n (remainder a f k rs) (inr is) = let (x, at, e) = member_with n rs is in (x, inr at, e)

with_member : (rs : Remainders) (x : Item) → IsIn x (members rs) → IsOfRemainders x.coefficient rs
with_member no_remainders x at = absurd at
with_member (remainder a f k rs) x (inl e) = inl (ap (λ y. y.coefficient) e)
with_member (remainder a f k rs) x (inr at) = inr (with_member rs x at)

pub outside_in_both : (f g : Form) (n : ℤ) → same_form f g ≡ true → IsOutside f n → IsOutside g n
outside_in_both (form c ts rs) (form d us qs) n e (inl (is, out)) = inl (is ∙ (same_parts c d ts us rs qs e).0, out)
outside_in_both (form c ts rs) (form d us qs) n e (inr (inl of_field, out)) = inr (inl (subst (IsOfFields n) (same_parts c d ts us rs qs e).1 of_field), out)
outside_in_both (form c ts rs) (form d us qs) n e (inr (inr of_remainder, out)) =
    let (x, at, is) = member_with n rs of_remainder in
    let there = in_both (members rs) (members qs) (same_remainders_out rs qs (same_parts c d ts us rs qs e).2).1 x at in
    inr (inr (subst (λ z. IsOfRemainders z qs) (sym is) (with_member qs x there)), out)
