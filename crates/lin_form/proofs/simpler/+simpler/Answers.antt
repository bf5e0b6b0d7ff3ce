use Rattle.std.proofs.Common.{suc, get_or, ◌≡◌, ap, sym, ◌∙◌, subst, arith, drop, to_z, of_z, ◌+◌, ◌*◌, ◌<◌, ◌≤◌, ◌^◌, unsigned_abs, refl}
use Rattle.std.specs.Prelude.{pos, ◌+ℤ◌, ◌*ℤ◌}
use Rattle.std.specs.Int.{w128}
use Rattle.std.proofs.lemmas.Int.{ints}
use Rattle.model_form.specs.Form.{constant_of, remainder, remainders_of}
use Rattle.model_form.specs.Sums.{form_of_sum, started, add_form, add_fields, remainder_form}
use Rattle.model_form.specs.Sums as model
use Rattle.model_form.specs.Simpler.{simpler_sum, add_simpler, add_outer, inside}
use Rattle.model_tree.specs.Range.{IsLabelNumber}
use Rattle.model_form.specs.Ranges.{IsForm, IsCoefficient}
use Rattle.lin_form.specs.Whole.{AreInner}
use Rattle.lin_form.specs.Within.{IsGathered}
use Rattle.lin_form.proofs.Gathering.{gathered_more, gathered_none, gathered_later, add_fields_within, totals_begin}
use Rattle.lin_form.specs.Terms.{plain_fields, plain_remainders}
use Rattle.lin_form.specs.Gathered.{plain_sum}
use Rattle.lin_form.specs.declared.form.RemTerm.{RemTerm}
use Rattle.model_form.proofs.Values.{length-add_fields}
use Rattle.lin_form.specs.Nest.{nest_front, base_of}
use Rattle.lin_form.proofs.Nests.{seen_base, seen_next, seen_whole, simpler_bare}
use Rattle.lin_form.proofs.Evaluating.{remainder_item}
use Rattle.lin_form.proofs.Likes.{remainders_drop, held_64}
use Rattle.lin_form.proofs.Outside.{constant_after}
use Rattle.lin_form.proofs.Putting.{constant_grows, remainder_constant}
use Rattle.lin_form.proofs.simpler.+simpler.Goals as goal

pub simpler_sum-loop-term-init : goal.simpler_sum-loop-term-init
simpler_sum-loop-term-init t c =
    let n = c.form.inside.constant in
    let ts = plain_fields c.form.inside.fields.items in
    let constant : to_z w128 (of_z w128 n) ≡ n = (let f : IsLabelNumber n = c.form.invariant.form.0 in omega (arith, ints)) in
    let terms = ap (λ (x : model.Sum). x.terms) c.requires in
    let totals : c.add_fields.new.totals ≡ add_fields (pos 1) ts (started n).totals =
    c.add_fields.ensures ∙ (λ i. add_fields (pos 1) (plain_fields (c.deref.ensures.value i)) (c.requires i).totals) in
    let none = gathered_none n in
    let more : n ≡ n +ℤ (pos 1 *ℤ pos 0) = omega (arith, ints) in
    let is : plain_sum (record { constant = to_z w128 (of_z w128 n); totals = c.add_fields.new.totals; likes = c.args.sum.now.likes }) ≡ add_outer (pos 1) (pos 0) ts (started n) =
    λ i. record { constant = (constant ∙ more) i; totals = totals i; terms = terms i } in
    let outer : IsGathered 1 (add_outer (pos 1) (pos 0) ts (started n)) = record {
      eight = length-add_fields (pos 1) ts (started n).totals;
      totals = add_fields_within 0 0 (pos 1) ts (started n).totals (omega arith) c.form.invariant.form.1 refl (totals_begin 0 0 (started n).totals none.totals);
      likes = tt;
      apart = tt;
      inner = tt;
    } in
    record {
      value = (λ i. add_simpler (plain_remainders (c.deref-term-items.ensures.value i)) (is i)) ∙ ap simpler_sum c.form.view_is;
      gathered = subst (IsGathered 8) (sym is) (gathered_later 1 8 (add_outer (pos 1) (pos 0) ts (started n)) (omega arith) outer);
      constant = subst (λ z. unsigned_abs z ≤ 2 ^ 98) (sym constant) (let f : IsLabelNumber n = c.form.invariant.form.0 in omega (arith, ints));
    }

pub simpler_sum-add_inside-requires-clause-coefficient : goal.simpler_sum-add_inside-requires-clause-coefficient
simpler_sum-add_inside-requires-clause-coefficient t c =
    let h = (remainder_item c.form.inside.remainders.items c.deref-term-items.result.now c.loop-term.term-index c.term-item.result c.form.invariant.form.2 c.deref-term-items.ensures.value c.term-item.is c.loop-term-test.true).0 in
    subst IsCoefficient (sym (held_64 c.term-item.result.coefficient h)) h

pub simpler_sum-add_inside-requires-clause-some : goal.simpler_sum-add_inside-requires-clause-some
simpler_sum-add_inside-requires-clause-some t c = (remainder_item c.form.inside.remainders.items c.deref-term-items.result.now c.loop-term.term-index c.term-item.result c.form.invariant.form.2 c.deref-term-items.ensures.value c.term-item.is c.loop-term-test.true).1

pub simpler_sum-add_inside-requires-clause-few : goal.simpler_sum-add_inside-requires-clause-few
simpler_sum-add_inside-requires-clause-few t c = (remainder_item c.form.inside.remainders.items c.deref-term-items.result.now c.loop-term.term-index c.term-item.result c.form.invariant.form.2 c.deref-term-items.ensures.value c.term-item.is c.loop-term-test.true).2

pub simpler_sum-loop-term-preserved : goal.simpler_sum-loop-term-preserved
simpler_sum-loop-term-preserved t c =
    let i = c.loop-term.term-index in
    let it = c.term-item.result in
    let items = c.deref-term-items.result.now in
    let s = plain_sum c.loop-term.sum in
    let h = remainder_item c.form.inside.remainders.items items i it c.form.invariant.form.2 c.deref-term-items.ensures.value c.term-item.is c.loop-term-test.true in
    let b : unsigned_abs it.coefficient ≤ 2 ^ 31 = (let l : unsigned_abs it.coefficient < 2 ^ 31 = h.0 in omega arith) in
    let done = c.in_ok-add_inside.ensures {u = tt} in
    let f = form_of_sum (inside it.divisor (simpler_sum it.inner)) in
    let g = remainder_form f it.divisor in
    let made : remainder_form (form_of_sum (inside it.divisor (plain_sum c.simpler_dividend.new.sum))) it.divisor ≡ g = ap (λ x. remainder_form (form_of_sum (inside it.divisor x)) it.divisor) (c.in_ok-simpler_dividend.ensures {u = tt}).0 in
    let added : plain_sum c.add_inside.new.self ≡ add_form it.coefficient g s = done.sum ∙ (λ j. add_form (held_64 it.coefficient h.0 j) (made j) s) in
    let rest = plain_remainders (drop (i + 1) items) in
    let here : plain_remainders (drop i items) ≡ remainder it.coefficient it.inner it.divisor rest =
    remainders_drop items i it c.loop-term-test.true ∙ ap (λ (x : RemTerm). remainder x.coefficient x.inner x.divisor rest) (sym c.term-item.is) in
    let is = subst IsForm made done.form in
    let inner = subst (λ x. AreInner (remainders_of x)) made done.inner in
    let e : suc (8 + i) ≡ 8 + (i + 1) = omega arith in
    record {
      value = ap (add_simpler rest) added ∙ sym (ap (λ rs. add_simpler rs s) here) ∙ c.loop-term.invariant.value;
      gathered = subst (λ n. IsGathered n (plain_sum c.add_inside.new.self)) e (subst (IsGathered (suc (8 + i))) (sym added) (gathered_more (8 + i) it.coefficient g s b is inner c.loop-term.invariant.gathered));
      constant = subst (λ z. unsigned_abs z ≤ 2 ^ 98 + (i + 1) * 2 ^ 43) (sym (ap (λ (x : model.Sum). x.constant) added ∙ constant_after it.coefficient g s)) (constant_grows i c.loop-term.sum.constant it.coefficient (constant_of g) h.0 (remainder_constant f it.divisor h.1 h.2) c.loop-term.invariant.constant);
    }

pub simpler_dividend-loop-divisor-init : goal.simpler_dividend-loop-divisor-init
simpler_dividend-loop-divisor-init t c =
    let made = c.in_ok-simpler_sum.ensures {u = tt} in
    record { value = made.0 ∙ ap simpler_sum (sym (seen_base c.args.inner.now c.inner.inside.base c.inner.inside.divisors.items c.inner.invariant.more c.inner.view_is)); gathered = made.1 }

pub simpler_dividend-loop-divisor-preserved : goal.simpler_dividend-loop-divisor-preserved
simpler_dividend-loop-divisor-preserved t c =
    let i = c.loop-divisor.divisor-index in
    let items = c.deref-divisor-items.result.now in
    let f = nest_front i (base_of c.args.inner.now) items in
    let k = get_or items i 0 in
    let next = seen_next i (base_of c.args.inner.now) items 0 c.loop-divisor-test.true in
    let made = c.in_ok-divide.ensures {u = tt} in
    record {
      value = made.sum ∙ ap (λ x. add_form (pos 1) (remainder_form (form_of_sum (inside k x)) k) (started (pos 0))) c.loop-divisor.invariant.value ∙ sym (simpler_bare f k) ∙ ap simpler_sum (sym next);
      gathered = made.gathered;
    }

pub simpler_dividend-returns : goal.simpler_dividend-returns
simpler_dividend-returns t c = (c.loop-divisor.invariant.value ∙ ap simpler_sum (seen_whole c.loop-divisor.divisor-index c.args.inner.now c.inner.inside.base c.inner.inside.divisors.items c.deref-divisor-items.result.now c.inner.invariant.more c.inner.view_is c.deref-divisor-items.ensures.value c.loop-divisor-test.false), c.loop-divisor.invariant.gathered)
