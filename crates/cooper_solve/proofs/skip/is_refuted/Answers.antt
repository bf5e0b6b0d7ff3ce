use Rattle.std.proofs.Common.{sym, subst, rules, arith}
use Rattle.std.proofs.Math.IntN.{pos}
use Rattle.std.specs.Prelude.{FitsSigned, ◌<ℤ◌}
use Rattle.std.specs.Int.{w128}
use Rattle.std.proofs.lemmas.Int.{ints}
use Rattle.math_cooper.specs.System.{Holds}
use Rattle.cooper_solve.proofs.Skipped.{refuted_now}
use Rattle.cooper_solve.proofs.skip.is_refuted.Goals as goal

pub returns-then-skip_one-gt0 : goal.returns-then-skip_one-gt0
returns-then-skip_one-gt0 c = λ _ vs h.
    let it = c.constraint-item.result in
    let held = subst (Holds vs) (sym c.constraint-item.is) (h c.loop-constraint.constraint-index it c.loop-constraint-test.true) in
    let fr : FitsSigned w128 c.skip_one.result = search rules in
    let some : pos 0 <ℤ c.skip_one.result = omega (arith, ints, c.if-skip_one-gt0.true) in
    refuted_now it vs c.skip_one.result some c.skip_one.ensures.none held
