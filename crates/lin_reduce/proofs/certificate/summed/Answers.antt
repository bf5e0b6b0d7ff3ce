use Rattle.std.proofs.Common.{sym, subst, List}
use Rattle.std.proofs.Math.IntN.{ℤ, pos, ◌+ℤ◌}
use Rattle.std.specs.Prelude.{◌≤ℤ◌}
use Rattle.math_cooper.specs.System.{dot}
use Rattle.lin_reduce.proofs.Adding.{none_at_least}
use Rattle.lin_reduce.proofs.certificate.summed.Goals as goal

pub loop-place-init : goal.loop-place-init
loop-place-init c = λ vs _. subst (λ (f : List ℤ). pos 0 ≤ℤ (dot f vs +ℤ pos 0)) (sym (c.in_ok-zeros.ensures {u = tt})) (none_at_least c.args.count vs)
