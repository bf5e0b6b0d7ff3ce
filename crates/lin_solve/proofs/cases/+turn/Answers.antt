use Rattle.std.proofs.Common.{arith}
use Rattle.lin_solve.proofs.Numbered.{within_lower}
use Rattle.lin_solve.proofs.cases.+turn.Goals as goal

pub turn_within-turn_for-requires : goal.turn_within-turn_for-requires
turn_within-turn_for-requires t c =
    let low = within_lower c.args.form.now c.remainders-term-items.result.now c.loop-term.term-index c.term-item.result c.innermost-by.result.0.now c.remainders-term-items.ensures.value c.loop-term-test.true c.term-item.is c.innermost-by.ensures.form in
    let d = c.decreases in
    omega arith
