use Rattle.std.proofs.Common.{◌∙◌, arith}
use Rattle.lin_solve.specs.Cases.{is_open}
use Rattle.lin_solve.proofs.Numbered.{item_lower, under_lower, open_within}
use Rattle.lin_solve.proofs.cases.+open.Goals as goal

pub is_open-is_open_within-requires : goal.is_open-is_open_within-requires
is_open-is_open_within-requires t c =
    let low = item_lower c.args.form.now c.remainders-term-items.result.now c.inner.term-index c.term-item.result c.remainders-term-items.ensures.value c.inner-test.true c.term-item.is in
    let d = c.decreases in
    omega arith

pub is_open_within-is_open-requires : goal.is_open_within-is_open-requires
is_open_within-is_open-requires t c = let low = under_lower c.args.term.now.inner c.innermost-by.result.0.now c.innermost-by.ensures.form in let d = c.decreases in omega arith

pub is_open_within-returns : goal.is_open_within-returns
is_open_within-returns t c = c.is_open.ensures ∙ (λ i. is_open c.args.steps.now (c.innermost-by.ensures.divisor i) (c.innermost-by.ensures.form i)) ∙ open_within c.args.steps.now c.args.term.now.divisor c.args.term.now.inner
