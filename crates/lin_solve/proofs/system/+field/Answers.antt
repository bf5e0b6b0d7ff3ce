use Rattle.std.proofs.Common.{ap, ◌∙◌, arith}
use Rattle.model_chain.specs.Literals.{has_field}
use Rattle.lin_solve.proofs.Numbered.{item_lower, under_lower, field_within}
use Rattle.lin_solve.proofs.system.+field.Goals as goal

pub has_field-is_within-requires : goal.has_field-is_within-requires
has_field-is_within-requires t c =
    let low = item_lower c.args.form.now c.remainders-term-items.result.now c.inner.term-index c.term-item.result c.remainders-term-items.ensures.value c.inner-test.true c.term-item.is in
    let d = c.decreases in
    omega arith

pub is_within-has_field-requires : goal.is_within-has_field-requires
is_within-has_field-requires t c = let low = under_lower c.args.term.now.inner c.innermost.result.0.now c.innermost.ensures.form in let d = c.decreases in omega arith

pub is_within-returns : goal.is_within-returns
is_within-returns t c = c.has_field.ensures ∙ ap (has_field c.args.field) c.innermost.ensures.form ∙ field_within c.args.field c.args.term.now.inner
