use Rattle.lin_solve.proofs.Guessed.{hold_further, hold_all}
use Rattle.lin_solve.proofs.guess.all_hold.Goals as goal

pub loop-literal-preserved : goal.loop-literal-preserved
loop-literal-preserved c = hold_further c.args.literals.now c.loop-literal.literal-index c.literal-item.result c.args.values.now c.holds.result c.loop-literal-test.true c.literal-item.is c.holds.ensures c.if-holds-literal.false c.loop-literal.invariant

pub returns : goal.returns
returns c = λ yes. hold_all c.args.literals.now c.loop-literal.literal-index c.args.values.now c.loop-literal-test.false c.loop-literal.invariant
