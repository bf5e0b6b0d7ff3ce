use Rattle.std.proofs.Common.{sym, subst}
use Rattle.math_cooper.specs.System.{Solves}
use Rattle.lin_solve.proofs.Branched.{never_loosened}
use Rattle.lin_solve.proofs.branches.explore_sums.Goals as goal

pub returns : goal.returns
returns c = never_loosened _ c.args.conditions.items c.deref.result.now c.explore.result (λ vs h. subst (Solves vs) (sym c.deref.ensures.value) (c.in_ok-sums.ensures {u = tt} vs h)) c.explore.ensures
