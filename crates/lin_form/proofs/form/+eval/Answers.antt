use Rattle.std.proofs.Common.{◌≡◌, ap, sym, ◌∙◌, arith, subst, rules, unsigned_abs, ◌≤◌, to_z, ◌^◌, ◌*◌, ◌+◌, get_or, drop, ◌<◌, pos}
use Rattle.std.specs.Prelude.{FitsSigned, ◌*ℤ◌, ◌+ℤ◌}
use Rattle.std.specs.Int.{w64, w128, int_rem_euclid}
use Rattle.std.proofs.lemmas.Int.{ints, to_z-of_z}
use Rattle.model_form.specs.Form.{value, remainders_value, modulo}
use Rattle.lin_form.specs.declared.form.RemTerm.{RemTerm}
use Rattle.lin_form.specs.Terms.{plain_remainders}
use Rattle.lin_form.specs.Nest.{nest_front, base_of}
use Rattle.lin_form.proofs.Nests.{seen_base, seen_next, seen_whole, value_bare}
use Rattle.lin_form.proofs.Evaluating.{remainder_item, remainders_step, fits_64, sum_is, carried}
use Rattle.lin_form.proofs.form.+eval.Goals as goal

pub Form::eval-remainder_value-sum-requires-clause-coefficient : goal.Form::eval-remainder_value-sum-requires-clause-coefficient
Form::eval-remainder_value-sum-requires-clause-coefficient t c =
    let h = (remainder_item c.self.inside.remainders.items c.deref-term-items.result.now c.loop-term.term-index c.term-item.result c.self.invariant.form.2 c.deref-term-items.ensures.value c.term-item.is c.loop-term-test.true).0 in
    let z = c.term-item.result.coefficient in
    subst (λ y. unsigned_abs y < 2 ^ 31) (sym (to_z-of_z w64 z (fits_64 z (omega (arith, h))))) h

pub Form::eval-remainder_value-sum-requires-clause-some : goal.Form::eval-remainder_value-sum-requires-clause-some
Form::eval-remainder_value-sum-requires-clause-some t c = (remainder_item c.self.inside.remainders.items c.deref-term-items.result.now c.loop-term.term-index c.term-item.result c.self.invariant.form.2 c.deref-term-items.ensures.value c.term-item.is c.loop-term-test.true).1

pub Form::eval-remainder_value-sum-requires-clause-few : goal.Form::eval-remainder_value-sum-requires-clause-few
Form::eval-remainder_value-sum-requires-clause-few t c = (remainder_item c.self.inside.remainders.items c.deref-term-items.result.now c.loop-term.term-index c.term-item.result c.self.invariant.form.2 c.deref-term-items.ensures.value c.term-item.is c.loop-term-test.true).2

pub Form::eval-loop-term-preserved : goal.Form::eval-loop-term-preserved
Form::eval-loop-term-preserved t c =
    let h = (remainder_item c.self.inside.remainders.items c.deref-term-items.result.now c.loop-term.term-index c.term-item.result c.self.invariant.form.2 c.deref-term-items.ensures.value c.term-item.is c.loop-term-test.true).0 in
    let items = c.deref-term-items.result.now in
    let i = c.loop-term.term-index in
    let it = c.term-item.result in
    let l = c.loop-term-test.true in
    let many = c.deref-term-items.type_inv.0 in
    let r = sum_is (to_z w128 c.loop-term.sum-bits) c.remainder_value-sum.result (2 ^ 98 + i * 2 ^ 43) (2 ^ 43) (2 ^ 98 + (i + 1) * 2 ^ 43) c.loop-term.invariant.small c.remainder_value-sum.ensures.small (omega arith) (omega arith) in
    let fv : FitsSigned w128 c.eval-inner.result = search rules in
    let p : c.remainder_value-sum.result ≡ it.coefficient *ℤ modulo (value it.inner c.args.values.now) it.divisor =
    c.remainder_value-sum.ensures.value ∙ (λ j. to_z-of_z w64 it.coefficient (fits_64 it.coefficient (omega (arith, h))) j *ℤ modulo ((to_z-of_z w128 c.eval-inner.result fv ∙ c.eval-inner.ensures) j) it.divisor) in
    let same : (get_or items i it).coefficient *ℤ modulo (value (get_or items i it).inner c.args.values.now) (get_or items i it).divisor ≡ it.coefficient *ℤ modulo (value it.inner c.args.values.now) it.divisor =
    ap (λ (x : RemTerm). x.coefficient *ℤ modulo (value x.inner c.args.values.now) x.divisor) (sym c.term-item.is) in
    let next = remainders_step items i it c.args.values.now l in
    record {
      value = ap (λ z. z +ℤ remainders_value (plain_remainders (drop (i + 1) items)) c.args.values.now) r.is
          ∙ carried (to_z w128 c.loop-term.sum-bits) c.remainder_value-sum.result _ _ _ c.loop-term.invariant.value (next ∙ ap (λ z. z +ℤ remainders_value (plain_remainders (drop (i + 1) items)) c.args.values.now) (same ∙ sym p));
      small = subst (λ z. unsigned_abs z ≤ 2 ^ 98 + (i + 1) * 2 ^ 43) (sym r.is) r.small;
    }

pub Dividend::eval-loop-divisor-init : goal.Dividend::eval-loop-divisor-init
Dividend::eval-loop-divisor-init t c =
    let fits : FitsSigned w128 c.eval-value.result = search rules in
    to_z-of_z w128 c.eval-value.result fits ∙ c.eval-value.ensures ∙ ap (λ f. value f c.args.values.now) (sym (seen_base c.args.self.now c.self.inside.base c.self.inside.divisors.items c.self.invariant.more c.self.view_is))

pub Dividend::eval-loop-divisor-preserved : goal.Dividend::eval-loop-divisor-preserved
Dividend::eval-loop-divisor-preserved t c =
    let i = c.loop-divisor.divisor-index in
    let items = c.deref-divisor-items.result.now in
    let f = nest_front i (base_of c.args.self.now) items in
    let k = get_or items i 0 in
    let next = seen_next i (base_of c.args.self.now) items 0 c.loop-divisor-test.true in
    let fits : FitsSigned w128 c.rem-value.result = search rules in
    let by : to_z w128 k ≡ pos k = omega (arith, ints) in
    to_z-of_z w128 c.rem-value.result fits ∙ c.rem-value.ensures.value ∙ (λ j. int_rem_euclid (c.loop-divisor.invariant j) (by j))
    ∙ sym (value_bare f k c.args.values.now) ∙ ap (λ g. value g c.args.values.now) (sym next)

pub Dividend::eval-returns : goal.Dividend::eval-returns
Dividend::eval-returns t c = c.loop-divisor.invariant ∙ ap (λ f. value f c.args.values.now) (seen_whole c.loop-divisor.divisor-index c.args.self.now c.self.inside.base c.self.inside.divisors.items c.deref-divisor-items.result.now c.self.invariant.more c.self.view_is c.deref-divisor-items.ensures.value c.loop-divisor-test.false)
