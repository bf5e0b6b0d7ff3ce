use Rattle.std.proofs.Common.{sym, subst, Vec, Global}
use Rattle.math_cooper.specs.System.{Affine}
use Rattle.cooper_solve.specs.Sums.{AreAtLeast, IsAtLeast}
use Rattle.cooper_solve.proofs.hopeless.push_all_sums.Goals.{then-coefficient-gt0+in_ok-push_sums, else-coefficient-gt0}
use Rattle.cooper_solve.proofs.hopeless.push_all_sums.Goals as goal

pub loop-form-preserved : goal.loop-form-preserved
loop-form-preserved c = λ vs all old.
    let it = c.form-item.result in
    let own = subst (IsAtLeast vs) (sym c.form-item.is) (all c.loop-form.form-index it c.loop-form-test.true) in
    let before = c.loop-form.invariant vs all old in
    elim c.if-coefficient-gt0.branch [
      | then-coefficient-gt0+in_ok-push_sums w ↦ subst (λ (v : Vec Affine Global). AreAtLeast vs v.items) (sym w.out-is) (w.in_ok-push_sums.ensures {u = tt} vs all own before)
      | else-coefficient-gt0 w ↦ subst (λ (v : Vec Affine Global). AreAtLeast vs v.items) (sym w.out-is) before
    ]
