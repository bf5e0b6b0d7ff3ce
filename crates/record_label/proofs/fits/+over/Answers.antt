use Rattle.std.proofs.Common.{◌≡◌, true, false, refl, sym, ◌∙◌, subst, arith}
use Rattle.model_form.specs.Over.{IsOver}
use Rattle.lin_solve.proofs.Numbered.{item_lower, under_lower}
use Rattle.record_label.proofs.FitFacts.{over_more, not_over, over_all, form_over, over_below, over_rest, over_up, over_under}
use Rattle.record_label.proofs.fits.+over.Goals as goal

pub is_over-is_over_within-requires : goal.is_over-is_over_within-requires
is_over-is_over_within-requires t c =
    let low = item_lower c.args.form.now c.remainders-term-items.result.now c.loop-term.term-index c.term-item.result c.remainders-term-items.ensures.value c.loop-term-test.true c.term-item.is in
    let d = c.decreases in
    omega arith

pub is_over-loop-term-preserved : goal.is_over-loop-term-preserved
is_over-loop-term-preserved t c =
    over_more c.args.fields c.remainders-term-items.result.now c.loop-term.term-index c.term-item.result c.loop-term-test.true c.term-item.is (c.is_over_within.ensures.0 c.if-not-is_over_within.false) c.loop-term.invariant

pub is_over-returns-then-not-is_over_within : goal.is_over-returns-then-not-is_over_within
is_over-returns-then-not-is_over_within t c =
    let other : IsOver c.args.fields c.term-item.result.inner → ⊥ = λ o. let e : false ≡ true = sym c.if-not-is_over_within.true ∙ c.is_over_within.ensures.1 o in absurd (cc) in
    (λ e. cc, λ o. absurd (not_over c.args.fields c.remainders-term-items.result.now c.loop-term.term-index c.term-item.result c.loop-term-test.true c.term-item.is other c.loop-term.invariant (over_rest c.args.fields c.args.form.now c.remainders-term-items.result.now c.remainders-term-items.ensures.value o)))

pub is_over-returns-then-not-are_below : goal.is_over-returns-then-not-are_below
is_over-returns-then-not-are_below t c =
    (λ e. cc, λ o. let e : false ≡ true = sym c.if-not-are_below.true ∙ c.are_below.ensures.1 (over_below c.args.fields c.args.form.now c.fields.result.now c.fields.ensures.value o) in absurd (cc))

pub is_over-returns : goal.is_over-returns
is_over-returns t c =
    let rs = c.remainders-term-items.result.now in
    let below = c.are_below.ensures.0 c.if-not-are_below.false in
    (λ e. form_over c.args.fields c.args.form.now c.fields.result.now rs c.fields.ensures.value c.remainders-term-items.ensures.value below (over_all c.args.fields rs c.loop-term.term-index c.loop-term-test.false c.loop-term.invariant), λ o. refl)

pub is_over_within-is_over-requires : goal.is_over_within-is_over-requires
is_over_within-is_over-requires t c = let low = under_lower c.args.term.now.inner c.innermost.result.0.now c.innermost.ensures.form in let d = c.decreases in omega arith

pub is_over_within-returns : goal.is_over_within-returns
is_over_within-returns t c =
    let n = c.args.fields in
    let same = c.innermost.ensures.form in
    (λ e. over_up n c.args.term.now.inner (subst (IsOver n) same (c.is_over.ensures.0 e)), λ o. c.is_over.ensures.1 (subst (IsOver n) (sym same) (over_under n c.args.term.now.inner o)))
