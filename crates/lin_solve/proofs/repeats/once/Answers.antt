use Rattle.std.proofs.Common.{false, subst}
use Rattle.lin_solve.specs.Kept.{Keeps}
use Rattle.lin_solve.specs.contracts.compare.ComparePartialEq.TheImpl.{ghosts as compares}
use Rattle.lin_solve.proofs.Alike.{laws_of_equality}
use Rattle.lin_solve.proofs.Once.{both_kept}
use Rattle.lin_solve.proofs.repeats.once.Goals as goal

pub returns : goal.returns
returns c =
    let ls = c.args.literals.now in
    both_kept compares.eq laws_of_equality ls _ _ (subst (λ old. Keeps compares.eq ls false old c.keep.new.kept.items) c.new-kept.ensures.items (c.in_ok-keep.ensures {u = tt})) (c.in_ok-keep-2.ensures {u = tt})
