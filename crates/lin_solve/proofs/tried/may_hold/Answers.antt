use Rattle.std.proofs.Common.{false, refl, subst}
use Rattle.model_chain.specs.Chains.{first_system, count_variables}
use Rattle.model_chain.specs.Literals.{remainders_in}
use Rattle.cooper_solve.specs.Told.{Tells}
use Rattle.lin_solve.specs.Plain.{plain_literals}
use Rattle.lin_solve.proofs.Pushed.{positives}
use Rattle.lin_solve.proofs.Fronts.{never_hold}
use Rattle.lin_solve.proofs.tried.may_hold.Goals as goal

pub returns-in-Unsat : goal.returns-in-Unsat
returns-in-Unsat c =
    let f = plain_literals c.front-front.result.now in
    let known = c.in_ok-known.ensures {u = tt} in
    let ss = c.args.sides.now in
    let h = subst (Tells (count_variables f) (first_system f false ss)) c.in-Unsat.is (c.in_ok-run.ensures {u = tt}) in
    λ e. never_hold _ (plain_literals c.args.literals.now) f ss refl c.front-front.ensures c.requires (positives c.in_ok-known.known.items (remainders_in f) known.0 known.1) h
