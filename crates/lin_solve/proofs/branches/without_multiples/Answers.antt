use Rattle.std.proofs.Common.{sym, subst}
use Rattle.math_cooper.specs.System.{Solves}
use Rattle.lin_reduce.proofs.Cutting.{one_less}
use Rattle.lin_solve.proofs.Branched.{solves_pushed}
use Rattle.lin_solve.proofs.branches.without_multiples.Goals as goal

pub loop-condition-preserved-in-Continue-1 : goal.loop-condition-preserved-in-Continue-1
loop-condition-preserved-in-Continue-1 c = λ vs h.
    let inv = c.loop-condition.invariant vs h in
    let parts = one_less vs c.pop.new.self.items c.in-Some.condition (subst (Solves vs) (c.in-Some.ensures {u = tt}).items inv.0) in
    (parts.0, subst (Solves vs) (sym (c.in_ok-push.ensures {u = tt}).items) (solves_pushed vs c.loop-condition.kept.items c.in-Some.condition inv.1 parts.1))

pub loop-condition-preserved : goal.loop-condition-preserved
loop-condition-preserved c = λ vs h.
    let inv = c.loop-condition.invariant vs h in
    let parts = one_less vs c.pop.new.self.items c.in-Some.condition (subst (Solves vs) (c.in-Some.ensures {u = tt}).items inv.0) in
    (parts.0, inv.1)
