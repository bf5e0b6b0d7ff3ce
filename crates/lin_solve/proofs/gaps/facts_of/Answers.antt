use Rattle.lin_solve.proofs.Gapped.{literal_here}
use Rattle.lin_solve.proofs.gaps.facts_of.Goals as goal

pub loop-literal-preserved : goal.loop-literal-preserved
loop-literal-preserved c = λ us holds.
    c.in_ok-add.ensures {u = tt} us (literal_here c.args.literals.now c.loop-literal.literal-index c.literal-item.result us c.literal-item.is c.loop-literal-test.true holds) (c.loop-literal.invariant us holds)
