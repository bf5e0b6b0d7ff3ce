use Rattle.std.proofs.Common.{arith, get_or}
use Rattle.lin_solve.proofs.Gapped.{literal_here}
use Rattle.lin_solve.proofs.cases.next_of.Goals as goal

pub returns-then-is_lost : goal.returns-then-is_lost
returns-then-is_lost c = λ us h all.
    let ls = c.args.literals.now in
    let i = get_or c.args.order.now c.loop-number.number-index 0 in
    let x = c.index-literals-number-in-loop-number.result in
    let low = c.if-number-literals.false in
    c.is_lost.ensures c.if-is_lost.true us h (literal_here ls i x us c.index-literals-number-in-loop-number.is (omega arith) all)
