use Rattle.std.proofs.Common.{⊎_elim}
use Rattle.lin_solve.proofs.Seeking.{one_side}
use Rattle.lin_solve.proofs.found.push_sides.Goals as goal

pub returns-clause-sides : goal.returns-clause-sides
returns-clause-sides c = λ _ us h.
    let broken = c.in-Some.ensures {u = tt} in
    ⊎_elim (λ l. (c.in_ok-push_side-2.ensures {u = tt}).kept us ((c.in_ok-push_side.ensures {u = tt}).side us h l)) (λ r. (c.in_ok-push_side-2.ensures {u = tt}).side us h r)
    (one_side c.args.literals.now c.in-Some.place us broken.0 broken.1 h)
