use Rattle.std.proofs.Common.{arith}
use Rattle.lin_solve.proofs.Numbered.{within_lower}
use Rattle.lin_solve.proofs.splits.+split_in.Goals as goal

pub split_in-requires : goal.split_in-requires
split_in-requires t c =
    let low = within_lower c.args.form.now c.remainders-term-items.result.now c.loop-term.term-index c.term-item.result c.innermost-divisor.result.0.now c.remainders-term-items.ensures.value c.loop-term-test.true c.term-item.is c.innermost-divisor.ensures.form in
    let d = c.decreases in
    omega arith
