use Rattle.std.proofs.Common.{arith}
use Rattle.lin_solve.proofs.Seeking.{pushed_hold}
use Rattle.lin_solve.proofs.branches.with_literal.Goals as goal

pub returns : goal.returns
returns c = λ us h own. pushed_hold c.in_ok-out.out.items _ c.args.more us (c.in_ok-push.ensures {u = tt}).items own (c.in_ok-out.ensures {u = tt} us h (λ d l. absurd (omega arith)))
