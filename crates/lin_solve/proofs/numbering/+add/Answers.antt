use Rattle.std.proofs.Common.{length, drop, ◌+◌, ap, sym, ◌∙◌, arith}
use Rattle.model_chain.specs.Literals.{seen, seen_all, with_one}
use Rattle.lin_form.specs.Terms.{plain_remainders}
use Rattle.lin_solve.specs.Plain.{plain_known, plain_term}
use Rattle.lin_solve.proofs.Numbered.{under_lower, item_lower, item_positive, seen_next, seen_whole, seen_start, seen_step, seen_end}
use Rattle.lin_solve.proofs.numbering.+add.Goals as goal

pub add_form-add_dividend-requires : goal.add_form-add_dividend-requires
add_form-add_dividend-requires t c = let low = item_lower c.args.form.now c.remainders-term-items.result.now c.loop-term.term-index c.term-item.result c.remainders-term-items.ensures.value c.loop-term-test.true c.term-item.is in let d = c.decreases in omega arith

pub add_form-add_one-requires : goal.add_form-add_one-requires
add_form-add_one-requires t c = item_positive c.args.form.now c.remainders-term-items.result.now c.loop-term.term-index c.term-item.result c.remainders-term-items.ensures.form c.remainders-term-items.ensures.value c.loop-term-test.true c.term-item.is

pub add_form-loop-term-init : goal.add_form-loop-term-init
add_form-loop-term-init t c = record { known = seen_start c.args.form.now c.remainders-term-items.result.now (plain_known c.args.known.now.items) c.remainders-term-items.ensures.value; positive = λ h. h }

pub add_form-loop-term-preserved : goal.add_form-loop-term-preserved
add_form-loop-term-preserved t c =
    let ts = c.remainders-term-items.result.now in
    let i = c.loop-term.term-index in
    let deep = c.in_ok-add_dividend.ensures {u = tt} in
    let one = c.in_ok-add_one.ensures {u = tt} in
    record {
      known = ap (seen_all (plain_remainders (drop (i + 1) ts))) (one.0 ∙ ap (with_one (plain_term c.term-item.result)) deep.0) ∙ sym (seen_step ts i c.term-item.result (plain_known c.loop-term.known.items) c.loop-term-test.true c.term-item.is) ∙ c.loop-term.invariant.known;
      positive = λ h. one.1 (deep.1 (c.loop-term.invariant.positive h));
    }

pub add_form-returns : goal.add_form-returns
add_form-returns t c = (sym (seen_end c.remainders-term-items.result.now c.loop-term.term-index (plain_known c.loop-term.known.items) (omega arith)) ∙ c.loop-term.invariant.known, c.loop-term.invariant.positive)

pub add_dividend-add_form-requires : goal.add_dividend-add_form-requires
add_dividend-add_form-requires t c = let low = under_lower c.args.inner.now c.parts.result.0.now c.parts.ensures.base in let d = c.decreases in omega arith

pub add_dividend-loop-i-init : goal.add_dividend-loop-i-init
add_dividend-loop-i-init t c =
    let made = c.in_ok-add_form.ensures {u = tt} in
    record { known = made.0 ∙ ap (λ f. seen f (plain_known c.args.known.now.items)) c.parts.ensures.base; positive = made.1 }

pub add_dividend-loop-i-preserved : goal.add_dividend-loop-i-preserved
add_dividend-loop-i-preserved t c =
    let R = plain_known c.args.known.now.items in
    let term = c.in_ok-front_term.ensures {u = tt} in
    let one = c.in_ok-add_one.ensures {u = tt} in
    let low = c.loop-i-test.true in
    let many = ap length c.parts.ensures.divisors in
    record {
      known = one.0 ∙ seen_next c.loop-i.i c.args.inner.now R (plain_known c.loop-i.known.items) (plain_term c.in_ok-front_term.field-0) (omega arith) term.0 c.loop-i.invariant.known;
      positive = λ h. one.1 (c.loop-i.invariant.positive h);
    }

pub add_dividend-returns : goal.add_dividend-returns
add_dividend-returns t c =
    let low = c.loop-i-test.false in
    let many = ap length c.parts.ensures.divisors in
    (c.loop-i.invariant.known ∙ seen_whole c.loop-i.i c.args.inner.now (plain_known c.args.known.now.items) (omega arith), c.loop-i.invariant.positive)
