use Rattle.cooper_solve.specs.Sums.{IsAtLeast}
use Rattle.cooper_solve.proofs.Summing.{split_last}
use Rattle.cooper_solve.proofs.hopeless.eliminated.Goals as goal

pub loop-form-preserved : goal.loop-form-preserved
loop-form-preserved c = λ vs all.
    let parts = split_last (IsAtLeast vs) c.loop-form.yielded c.in-Some.form all in
    let before = c.loop-form.invariant vs parts.0 in
    let after = c.in_ok-part.ensures {u = tt} vs parts.1 in
    (after.0 before.0, after.1 before.1)
