use Rattle.cooper_solve.proofs.Listed.{bounds_none}
use Rattle.cooper_solve.proofs.bounds.bounds.Goals as goal

pub loop-number-init : goal.loop-number-init
loop-number-init c = bounds_none c.args.low c.args.last c.args.system.now c.new-out.result.items c.new-out.ensures.items
