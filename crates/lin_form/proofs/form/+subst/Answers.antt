use Rattle.std.proofs.Common.{suc, get_or, ◌≡◌, ap, sym, ◌∙◌, subst, arith, drop, to_z, of_z, ◌+◌, ◌*◌, ◌<◌, ◌≤◌, ◌^◌, inl, inr, unsigned_abs}
use Rattle.std.specs.Prelude.{ℤ}
use Rattle.std.specs.Int.{w128}
use Rattle.std.proofs.lemmas.Int.{ints}
use Rattle.std.proofs.lemmas.List.{drop_all}
use Rattle.std.proofs.lemmas.Result.{err_from_is_err_and}
use Rattle.model_form.specs.Form.{Form, form, constant_of, remainder, remainders_of}
use Rattle.model_form.specs.Sums.{form_of_sum, started, put_fields, put_remainders, add_form, remainder_form, subst_form}
use Rattle.model_form.specs.Sums as model
use Rattle.model_tree.specs.Limits.{greatest_divisor}
use Rattle.model_tree.specs.Range.{IsLabelNumber}
use Rattle.model_form.specs.Ranges.{IsCoefficient, IsForm, IsOutside, IsOutsideAfter, IsOutsideWithin}
use Rattle.lin_form.specs.Whole.{AreInner}
use Rattle.lin_form.specs.Within.{IsGathered}
use Rattle.lin_form.proofs.Gathering.{gathered_more}
use Rattle.lin_form.specs.Terms.{plain_fields, plain_remainders}
use Rattle.lin_form.specs.Gathered.{plain_sum}
use Rattle.lin_form.specs.declared.form.RemTerm.{RemTerm}
use Rattle.std.proofs.lemmas.List.Elements.{All-get_or}
use Rattle.lin_form.specs.Nest.{nest_front, base_of, AreDivisors}
use Rattle.lin_form.proofs.Nests.{seen_base, seen_next, seen_whole, subst_bare, none_bare, outside_nest, remainder_inside}
use Rattle.lin_form.proofs.Evaluating.{remainder_item}
use Rattle.lin_form.proofs.Likes.{remainders_drop, held_64}
use Rattle.lin_form.proofs.Outside.{constant_after, none_outside}
use Rattle.lin_form.proofs.Putting.{stops_weaker, within_at, after_within, both_of, constant_grows, remainder_constant}
use Rattle.lin_form.proofs.form.+subst.Goals as goal

pub Form::subst-returns-in_err-inner-clause-form : goal.Form::subst-returns-in_err-inner-clause-form
Form::subst-returns-in_err-inner-clause-form t c =
    let p = err_from_is_err_and c.from_residual-in_err-inner.result c.from_residual-in_err-inner.ensures.1 in
    let h = (c.in_err-inner.ensures {u = tt}).form in
    let gs = c.args.forms.now in
    let items = c.deref-term-items.result.now in
    let out : (n : ℤ) → IsOutsideAfter c.term-item.result.inner gs n → IsOutsideAfter c.args.self.now gs n = λ n o.
    after_within c.args.self.now c.self.inside.constant (plain_fields c.self.inside.fields.items) (plain_remainders c.self.inside.remainders.items) gs n c.self.view_is
    (subst (λ ts. IsOutsideWithin (plain_remainders ts) gs n) c.deref-term-items.ensures.value (within_at items c.loop-term.term-index c.term-item.result gs n c.loop-term-test.true (subst (λ (x : RemTerm). IsOutsideAfter x.inner gs n) c.term-item.is o))) in
    rw (p.1, p.2) (stops_weaker (IsOutsideAfter c.term-item.result.inner gs) (IsOutsideAfter c.args.self.now gs) c.in_err-inner.field-0.0 out h)

pub Form::subst-add_remainder-requires-clause-some : goal.Form::subst-add_remainder-requires-clause-some
Form::subst-add_remainder-requires-clause-some t c = (remainder_item c.self.inside.remainders.items c.deref-term-items.result.now c.loop-term.term-index c.term-item.result c.self.invariant.form.2 c.deref-term-items.ensures.value c.term-item.is c.loop-term-test.true).1

pub Form::subst-add_remainder-requires-clause-few : goal.Form::subst-add_remainder-requires-clause-few
Form::subst-add_remainder-requires-clause-few t c = (remainder_item c.self.inside.remainders.items c.deref-term-items.result.now c.loop-term.term-index c.term-item.result c.self.invariant.form.2 c.deref-term-items.ensures.value c.term-item.is c.loop-term-test.true).2

pub Form::subst-add_remainder-requires-clause-coefficient : goal.Form::subst-add_remainder-requires-clause-coefficient
Form::subst-add_remainder-requires-clause-coefficient t c =
    let h = (remainder_item c.self.inside.remainders.items c.deref-term-items.result.now c.loop-term.term-index c.term-item.result c.self.invariant.form.2 c.deref-term-items.ensures.value c.term-item.is c.loop-term-test.true).0 in
    subst IsCoefficient (sym (held_64 c.term-item.result.coefficient h)) h

pub Form::subst-loop-term-preserved : goal.Form::subst-loop-term-preserved
Form::subst-loop-term-preserved t c =
    let i = c.loop-term.term-index in
    let it = c.term-item.result in
    let gs = c.args.forms.now in
    let items = c.deref-term-items.result.now in
    let s = plain_sum c.loop-term.sum in
    let h = remainder_item c.self.inside.remainders.items c.deref-term-items.result.now c.loop-term.term-index c.term-item.result c.self.invariant.form.2 c.deref-term-items.ensures.value c.term-item.is c.loop-term-test.true in
    let b : unsigned_abs it.coefficient ≤ 2 ^ 31 = (let l : unsigned_abs it.coefficient < 2 ^ 31 = h.0 in omega arith) in
    let inner = (c.in_ok-inner.ensures {u = tt}) in
    let done = c.in_ok-add_remainder.ensures {u = tt} in
    let g = remainder_form (subst_form it.inner gs) it.divisor in
    let made : remainder_form c.in_ok-inner.inner it.divisor ≡ g = ap (λ f. remainder_form f it.divisor) inner.form in
    let added : plain_sum c.add_remainder.new.self ≡ add_form it.coefficient g s = done.sum ∙ (λ j. add_form (held_64 it.coefficient h.0 j) (made j) s) in
    let rest = plain_remainders (drop (i + 1) items) in
    let here : plain_remainders (drop i items) ≡ remainder it.coefficient it.inner it.divisor rest =
    remainders_drop items i it c.loop-term-test.true ∙ ap (λ (x : RemTerm). remainder x.coefficient x.inner x.divisor rest) (sym c.term-item.is) in
    let is = subst IsForm made done.form in
    let e : suc (8 + i) ≡ 8 + (i + 1) = omega arith in
    record {
      value = ap (put_remainders rest gs) added ∙ sym (ap (λ rs. put_remainders rs gs s) here) ∙ c.loop-term.invariant.value;
      gathered = subst (λ n. IsGathered n (plain_sum c.add_remainder.new.self)) e (subst (IsGathered (suc (8 + i))) (sym added) (gathered_more (8 + i) it.coefficient g s b is (subst (λ x. AreInner (remainders_of x)) made done.inner) c.loop-term.invariant.gathered));
      constant = subst (λ z. unsigned_abs z ≤ 2 ^ 98 + (i + 1) * 2 ^ 43) (sym (ap (λ (x : model.Sum). x.constant) added ∙ constant_after it.coefficient g s)) (constant_grows i c.loop-term.sum.constant it.coefficient (constant_of g) h.0 (remainder_constant (subst_form it.inner gs) it.divisor h.1 h.2) c.loop-term.invariant.constant);
      within = λ n o. elim (subst (λ rs. IsOutsideWithin rs gs n) here (c.loop-term.invariant.within n o)) as (λ _. IsOutsideWithin rest gs n) [ inl x ↦ absurd (inner.in_range n x) | inr x ↦ x ];
    }

pub Form::subst-returns-clause-in_range : goal.Form::subst-returns-clause-in_range
Form::subst-returns-clause-in_range t c =
    let gs = c.args.forms.now in
    let items = c.deref-term-items.result.now in
    let past = drop_all c.loop-term.term-index items c.loop-term-test.false in
    let begun = (c.in_ok-put_fields.ensures {u = tt}).sum in
    let constant : to_z w128 (of_z w128 c.self.inside.constant) ≡ c.self.inside.constant = let f : IsLabelNumber c.self.inside.constant = c.self.invariant.form.0 in omega (arith, ints) in
    let view = form c.self.inside.constant (plain_fields c.self.inside.fields.items) (plain_remainders c.self.inside.remainders.items) in
    let e : form_of_sum (plain_sum c.loop-term.sum) ≡ subst_form view gs =
    ap form_of_sum (ap (λ ts. put_remainders (plain_remainders ts) gs (plain_sum c.loop-term.sum)) (sym past) ∙ c.loop-term.invariant.value)
    ∙ (λ j. form_of_sum (put_remainders (plain_remainders (c.deref-term-items.ensures.value j)) gs ((begun ∙ (λ k. put_fields (plain_fields (c.deref.ensures.value k)) gs ((c.of-sum.ensures ∙ ap started constant) k))) j))) in
    both_of c.finish.result (λ (f : Form). f ≡ form_of_sum (plain_sum c.loop-term.sum)) IsForm (λ _. (n : ℤ) → IsOutsideAfter c.args.self.now gs n → ⊥) _ _ c.finish.ensures.form c.finish.ensures.in_range
    (λ f is h n o. elim (subst (λ g. IsOutsideAfter g gs n) (sym c.self.view_is) o) as (λ _. ⊥) [
      | inl x ↦ none_outside f h n (subst (λ g. IsOutside g n) (sym (is ∙ e)) x)
      | inr x ↦ subst (λ ts. IsOutsideWithin (plain_remainders ts) gs n → ⊥) (sym past) (λ y. y) (c.loop-term.invariant.within n (subst (λ ts. IsOutsideWithin (plain_remainders ts) gs n) (sym c.deref-term-items.ensures.value) x))
    ])

pub Dividend::subst-loop-divisor-init : goal.Dividend::subst-loop-divisor-init
Dividend::subst-loop-divisor-init t c =
    let under = seen_base c.args.self.now c.self.inside.base c.self.inside.divisors.items c.self.invariant.more c.self.view_is in
    let made = c.in_ok-form.ensures {u = tt} in
    record {
      value = made.form ∙ ap (λ f. subst_form f c.args.forms.now) (sym under);
      within = λ n o. made.in_range n (subst (λ f. IsOutsideAfter f c.args.forms.now n) under o);
    }

pub Dividend::subst-loop-divisor-preserved : goal.Dividend::subst-loop-divisor-preserved
Dividend::subst-loop-divisor-preserved t c =
    let i = c.loop-divisor.divisor-index in
    let items = c.deref-divisor-items.result.now in
    let f = nest_front i (base_of c.args.self.now) items in
    let k = get_or items i 0 in
    let next = seen_next i (base_of c.args.self.now) items 0 c.loop-divisor-test.true in
    let gs = c.args.forms.now in
    let range = All-get_or (λ n. (0 < n) × (n ≤ greatest_divisor)) items i 0 c.loop-divisor-test.true (subst AreDivisors (sym c.deref-divisor-items.ensures.value) c.self.invariant.divisors) in
    record {
      value = (c.in_ok-form-2.ensures {u = tt}) ∙ ap (λ g. remainder_form g k) c.loop-divisor.invariant.value ∙ sym (subst_bare f k gs) ∙ ap (λ g. subst_form g gs) (sym next);
      within = λ n o. none_bare f k gs c.loop-divisor.invariant.within (remainder_inside (subst_form f gs) k range.0 range.1) n (subst (λ g. IsOutsideAfter g gs n) next o);
    }

pub Dividend::subst-returns-in_err-form-clause-form : goal.Dividend::subst-returns-in_err-form-clause-form
Dividend::subst-returns-in_err-form-clause-form t c =
    let p = err_from_is_err_and c.from_residual.result c.from_residual.ensures.1 in
    let gs = c.args.forms.now in
    let out : (n : ℤ) → IsOutsideAfter c.self.inside.base gs n → IsOutsideAfter c.args.self.now gs n = λ n o.
    subst (λ f. IsOutsideAfter f gs n) c.self.view_is (outside_nest c.self.inside.base c.self.inside.divisors.items gs n o) in
    rw (p.1, p.2) (stops_weaker (IsOutsideAfter c.self.inside.base gs) (IsOutsideAfter c.args.self.now gs) c.in_err-form.field-0.0 out (c.in_err-form.ensures {u = tt}).form)

pub Dividend::subst-returns-clause-form : goal.Dividend::subst-returns-clause-form
Dividend::subst-returns-clause-form t c = c.loop-divisor.invariant.value ∙ ap (λ f. subst_form f c.args.forms.now) (seen_whole c.loop-divisor.divisor-index c.args.self.now c.self.inside.base c.self.inside.divisors.items c.deref-divisor-items.result.now c.self.invariant.more c.self.view_is c.deref-divisor-items.ensures.value c.loop-divisor-test.false)

pub Dividend::subst-returns-clause-in_range : goal.Dividend::subst-returns-clause-in_range
Dividend::subst-returns-clause-in_range t c =
    λ n o. c.loop-divisor.invariant.within n (subst (λ f. IsOutsideAfter f c.args.forms.now n) (sym (seen_whole c.loop-divisor.divisor-index c.args.self.now c.self.inside.base c.self.inside.divisors.items c.deref-divisor-items.result.now c.self.invariant.more c.self.view_is c.deref-divisor-items.ensures.value c.loop-divisor-test.false)) o)
