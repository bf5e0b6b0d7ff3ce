use Rattle.std.proofs.Common.{rules, refl}
use Rattle.std.specs.Prelude.{vec_items}
use Rattle.lin_solve.specs.contracts.compare.ComparePartialEq.TheImpl.{ghosts as compares}
use Rattle.lin_solve.proofs.Alike.{laws_of_equality, alike}
use Rattle.lin_solve.proofs.Once.{kept_all, answers_kept}
use Rattle.lin_solve.proofs.decision.decide_deeply.Goals as goal

pub returns-then-sided_stand_last : goal.returns-then-sided_stand_last
returns-then-sided_stand_last c =
    let ls = c.args.literals.now in
    answers_kept compares.eq laws_of_equality alike ls ls (kept_all compares.eq laws_of_equality ls (c.if-are_different.ensures.0 refl)) vec_items ls refl c.decide_all.result c.decide_all.ensures

pub returns : goal.returns
returns c =
    answers_kept compares.eq laws_of_equality alike c.args.literals.now c.in_ok-kept.kept.items c.in_ok-kept.ensures vec_items _ (search rules) c.decide_all-2.result c.decide_all-2.ensures
