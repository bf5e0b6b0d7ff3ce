use Rattle.std.proofs.Common.{◌≡◌, ℕ, ◌<◌, ap, sym, ◌∙◌, subst, arith, below_more, get_or, length, true, false, refl}
use Rattle.std.proofs.lemmas.Int.{ints}
use Rattle.model_form.proofs.Sorted.{AreIn}
use Rattle.model_form.specs.Form.{form}
use Rattle.model_form.specs.Same.{ordered, members, IsIn, same_form}
use Rattle.model_form.proofs.Equals.{same_out, same_in, differ_in_fields, differ_in_count, differ_in_member, same_by_parts}
use Rattle.lin_form.specs.Terms.{plain_fields, plain_remainders, member}
use Rattle.lin_form.specs.declared.form.RemTerm.{RemTerm}
use Rattle.lin_form.proofs.Hashing.{count-remainders}
use Rattle.lin_form.proofs.Members.{member_at, place_of, all_members, of_views, get_or-any}
use Rattle.lin_form.proofs.Nests.{same_bool, differ}
use Rattle.lin_form.proofs.+same.Goals as goal
use Rattle.lin_form.proofs.+same.Goals.{same::has-else-term-other-via-then-term-other+then-term-other-2+else-is_same, same::has-else-term-other-via-then-term-other+else-term-other-2, same::has-else-term-other-via-else-term-other}

pub form::Form::is_same-returns-then-not-same_fields : goal.form::Form::is_same-returns-then-not-same_fields
form::Form::is_same-returns-then-not-same_fields t c =
    of_views false (form c.self.inside.constant (plain_fields c.self.inside.fields.items) (plain_remainders c.self.inside.remainders.items)) (form c.other.inside.constant (plain_fields c.other.inside.fields.items) (plain_remainders c.other.inside.remainders.items)) c.args.self.now c.args.other.now c.self.view_is c.other.view_is
    (differ_in_fields c.self.inside.constant c.other.inside.constant (plain_fields c.self.inside.fields.items) (plain_fields c.other.inside.fields.items) (plain_remainders c.self.inside.remainders.items) (plain_remainders c.other.inside.remainders.items)
    (λ e. let h = c.same_fields.ensures.1 (ap plain_fields c.deref.ensures.value ∙ e ∙ sym (ap plain_fields c.deref-2.ensures.value)) in let z : false ≡ true = sym c.if-not-same_fields.true ∙ h in cc))

pub form::Form::is_same-returns-then-terms-others : goal.form::Form::is_same-returns-then-terms-others
form::Form::is_same-returns-then-terms-others t c =
    of_views false (form c.self.inside.constant (plain_fields c.self.inside.fields.items) (plain_remainders c.self.inside.remainders.items)) (form c.other.inside.constant (plain_fields c.other.inside.fields.items) (plain_remainders c.other.inside.remainders.items)) c.args.self.now c.args.other.now c.self.view_is c.other.view_is
    (differ_in_count c.self.inside.constant c.other.inside.constant (plain_fields c.self.inside.fields.items) (plain_fields c.other.inside.fields.items) (plain_remainders c.self.inside.remainders.items) (plain_remainders c.other.inside.remainders.items)
    (λ e. c.if-terms-others.true (ap length c.as_slice-terms.ensures.value ∙ sym (count-remainders c.self.inside.remainders.items) ∙ e ∙ count-remainders c.other.inside.remainders.items ∙ sym (ap length c.as_slice-others.ensures.value))))

pub form::Form::is_same-returns-then-not-has : goal.form::Form::is_same-returns-then-not-has
form::Form::is_same-returns-then-not-has t c =
    let here = member_at c.as_slice-terms.result.now (member c.term-item.result) c.loop-term.term-index c.term-item.result c.loop-term-test.true (ap member c.term-item.is) in
    of_views false (form c.self.inside.constant (plain_fields c.self.inside.fields.items) (plain_remainders c.self.inside.remainders.items)) (form c.other.inside.constant (plain_fields c.other.inside.fields.items) (plain_remainders c.other.inside.remainders.items)) c.args.self.now c.args.other.now c.self.view_is c.other.view_is
    (differ_in_member c.self.inside.constant c.other.inside.constant (plain_fields c.self.inside.fields.items) (plain_fields c.other.inside.fields.items) (plain_remainders c.self.inside.remainders.items) (plain_remainders c.other.inside.remainders.items) (member c.term-item.result)
    (subst (λ ts. IsIn (member c.term-item.result) (members (plain_remainders ts))) c.as_slice-terms.ensures.value here)
    (λ i. let h = c.has.ensures.1 (subst (λ ts. IsIn (member c.term-item.result) (members (plain_remainders ts))) (sym c.as_slice-others.ensures.value) i) in let z : false ≡ true = sym c.if-not-has.true ∙ h in cc))

pub form::Form::is_same-loop-term-preserved : goal.form::Form::is_same-loop-term-preserved
form::Form::is_same-loop-term-preserved t c =
    λ k d h. below_more (λ k. (d : RemTerm) → IsIn (member (get_or c.as_slice-terms.result.now k d)) (members (plain_remainders c.as_slice-others.result.now))) c.loop-term.term-index
    (λ k h d. c.loop-term.invariant k d h)
    (λ d. let e : c.term-item.result ≡ get_or c.as_slice-terms.result.now c.loop-term.term-index d = c.term-item.is ∙ get_or-any c.as_slice-terms.result.now c.loop-term.term-index c.term-item.result d c.loop-term-test.true in subst (λ x. IsIn (member x) (members (plain_remainders c.as_slice-others.result.now))) e (c.has.ensures.0 c.if-not-has.false)) k h d

pub form::Form::is_same-returns : goal.form::Form::is_same-returns
form::Form::is_same-returns t c =
    let l : (k : ℕ) (d : RemTerm) → k < length c.as_slice-terms.result.now → IsIn (member (get_or c.as_slice-terms.result.now k d)) (members (plain_remainders c.as_slice-others.result.now)) = λ k d h. c.loop-term.invariant k d (omega arith) in
    let all = all_members c.as_slice-terms.result.now (members (plain_remainders c.as_slice-others.result.now)) l in
    of_views true (form c.self.inside.constant (plain_fields c.self.inside.fields.items) (plain_remainders c.self.inside.remainders.items)) (form c.other.inside.constant (plain_fields c.other.inside.fields.items) (plain_remainders c.other.inside.remainders.items)) c.args.self.now c.args.other.now c.self.view_is c.other.view_is
    (same_by_parts c.self.inside.constant c.other.inside.constant (plain_fields c.self.inside.fields.items) (plain_fields c.other.inside.fields.items) (plain_remainders c.self.inside.remainders.items) (plain_remainders c.other.inside.remainders.items)
    (omega (arith, ints))
    (sym (ap plain_fields c.deref.ensures.value) ∙ c.same_fields.ensures.0 c.if-not-same_fields.false ∙ ap plain_fields c.deref-2.ensures.value)
    c.self.invariant.form.3
    (count-remainders c.self.inside.remainders.items ∙ sym (ap length c.as_slice-terms.ensures.value) ∙ c.if-terms-others.false ∙ ap length c.as_slice-others.ensures.value ∙ sym (count-remainders c.other.inside.remainders.items))
    (subst (λ ts. AreIn (members (plain_remainders ts)) (members (plain_remainders c.other.inside.remainders.items))) c.as_slice-terms.ensures.value (subst (λ us. AreIn (members (plain_remainders c.as_slice-terms.result.now)) (members (plain_remainders us))) c.as_slice-others.ensures.value all)))

pub same::has-returns-then-is_same : goal.same::has-returns-then-is_same
same::has-returns-then-is_same t c =
    let first : c.args.term.now.coefficient ≡ c.other-item.result.coefficient = omega (arith, ints) in
    let inner = same_out c.args.term.now.inner c.other-item.result.inner (sym c.is_same.ensures ∙ c.if-is_same.true) in
    let second : c.args.term.now.divisor ≡ c.other-item.result.divisor = omega arith in
    let e : member c.args.term.now ≡ member c.other-item.result = λ i. record { coefficient = first i; inner = inner i; divisor = second i } in
    (λ u. member_at c.args.terms.now (member c.args.term.now) c.loop-other.other-index c.other-item.result c.loop-other-test.true (e ∙ ap member c.other-item.is), λ u. refl)

pub same::has-loop-other-preserved : goal.same::has-loop-other-preserved
same::has-loop-other-preserved t c =
    let here : member c.args.term.now ≡ member c.other-item.result → ⊥ = λ e.
    let first : c.args.term.now.coefficient ≡ c.other-item.result.coefficient = ap (λ x. x.coefficient) e in
    let second : c.args.term.now.divisor ≡ c.other-item.result.divisor = ap (λ x. x.divisor) e in
    let third : ordered c.args.term.now.inner ≡ ordered c.other-item.result.inner = ap (λ x. x.inner) e in
    elim c.else-term-other.branch [
      | same::has-else-term-other-via-then-term-other+then-term-other-2+else-is_same w ↦ (let s = same_in c.args.term.now.inner c.other-item.result.inner third in let z : false ≡ true = sym w.if-is_same.false ∙ w.is_same.ensures ∙ s in cc)
      | same::has-else-term-other-via-then-term-other+else-term-other-2 w ↦ w.if-term-other-2.false second
      | same::has-else-term-other-via-else-term-other w ↦ absurd (omega (arith, ints))
    ] in
    λ k d h. below_more (λ k. (d : RemTerm) → member c.args.term.now ≡ member (get_or c.args.terms.now k d) → ⊥) c.loop-other.other-index
    (λ k h d. c.loop-other.invariant k d h)
    (λ d e. here (e ∙ sym (ap member (c.other-item.is ∙ get_or-any c.args.terms.now c.loop-other.other-index c.other-item.result d c.loop-other-test.true)))) k h d

pub same::has-returns : goal.same::has-returns
same::has-returns t c =
    (λ e. absurd (let z : false ≡ true = e in cc), λ i. let r = place_of c.args.terms.now (member c.args.term.now) c.args.term.now i in let l : r.0 < length c.args.terms.now = r.1 in absurd (c.loop-other.invariant r.0 c.args.term.now (omega arith) r.2))

pub form::Dividend::is_same-returns-then-same_divisors : goal.form::Dividend::is_same-returns-then-same_divisors
form::Dividend::is_same-returns-then-same_divisors t c =
    let e = sym c.deref.ensures.value ∙ c.same_divisors.ensures.0 c.if-same_divisors.true ∙ c.deref-2.ensures.value in
    same_bool c.is_same.result c.self.inside.base c.other.inside.base c.self.inside.divisors.items c.other.inside.divisors.items c.self.invariant.more c.other.invariant.more e c.is_same.ensures
    ∙ (λ i. same_form (c.self.view_is i) (c.other.view_is i))

pub form::Dividend::is_same-returns-else-same_divisors : goal.form::Dividend::is_same-returns-else-same_divisors
form::Dividend::is_same-returns-else-same_divisors t c =
    let n : c.self.inside.divisors.items ≡ c.other.inside.divisors.items → ⊥ = λ e.
    let h = c.same_divisors.ensures.1 (c.deref.ensures.value ∙ e ∙ sym c.deref-2.ensures.value) in let z : false ≡ true = sym c.if-same_divisors.false ∙ h in cc in
    c.if-same_divisors.false
    ∙ differ c.self.inside.base c.other.inside.base c.self.inside.divisors.items c.other.inside.divisors.items c.self.invariant.more c.other.invariant.more n
    ∙ (λ i. same_form (c.self.view_is i) (c.other.view_is i))
