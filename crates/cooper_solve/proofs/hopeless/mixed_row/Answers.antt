use Rattle.std.proofs.Common.{ap, ◌∙◌, map}
use Rattle.std.specs.Prelude.{pos, ◌*ℤ◌}
use Rattle.std.specs.Int.{w128}
use Rattle.std.proofs.lemmas.Int.{to_z-of_z}
use Rattle.std.proofs.lemmas.Result.{MatchResult-weaker}
use Rattle.math_cooper.specs.System.{add_times}
use Rattle.cooper_solve.proofs.hopeless.mixed_row.Goals as goal

pub returns : goal.returns
returns c =
    let first = c.deref.ensures.value ∙ c.in_ok-first.ensures {u = tt} ∙ ap (λ k. map (λ x. k *ℤ x) c.args.f.now) (to_z-of_z w128 c.args.a c.ranges.a) in
    let second = c.deref-2.ensures.value ∙ c.in_ok-second.ensures {u = tt} ∙ ap (λ k. map (λ x. k *ℤ x) c.args.g.now) (to_z-of_z w128 c.args.b c.ranges.b) in
    MatchResult-weaker c.plus.result c.plus.ensures (λ v e. e ∙ (λ i. add_times (pos 1) (first i) (second i))) (λ e u. tt)
