use Rattle.std.proofs.Common.{◌∙◌}
use Rattle.model_chain.specs.Literals.{remainders_in}
use Rattle.lin_solve.specs.Plain.{plain_literals}
use Rattle.lin_solve.proofs.Pushed.{positives}
use Rattle.lin_solve.proofs.Tries.{ready_for}
use Rattle.lin_solve.proofs.tried.run.Goals as goal

pub solve-requires : goal.solve-requires
solve-requires c =
    let h = c.in_ok-system.ensures {u = tt} in
    let ls = plain_literals c.args.literals.now in
    ready_for ls c.args.bounded c.args.sides.now _ _ (c.deref-2.ensures.value ∙ h.0) h.1 (positives c.args.known.now (remainders_in ls) c.requires.0 c.requires.1)
