use Rattle.lin_solve.proofs.Gapped.{literal_here}
use Rattle.lin_solve.proofs.branches.some_never_holds.Goals as goal

pub returns-then-is_lost : goal.returns-then-is_lost
returns-then-is_lost c = λ _ us eight all. c.is_lost.ensures c.if-is_lost.true us (c.all-all.ensures us eight) (literal_here c.args.literals.now c.loop-i.i c.index-literals-i.result us c.index-literals-i.is c.loop-i-test.true all)
