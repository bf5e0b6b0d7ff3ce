use Rattle.std.proofs.Common.{[], refl, sym, subst}
use Rattle.model_chain.specs.Chains.{first_system, count_variables}
use Rattle.cooper_solve.specs.Told.{IsSolved, IsFarOff, Tells, puts_of}
use Rattle.lin_solve.specs.Plain.{plain_literals}
use Rattle.lin_solve.proofs.Tries.{none_more, named_here}
use Rattle.lin_solve.proofs.tried.try_these.Goals as goal

pub returns-in-Solved : goal.returns-in-Solved
returns-in-Solved c =
    let ls = plain_literals c.args.literals.now in
    let b = c.args.bounded in
    let ss = c.args.sides.now in
    let n = count_variables ls in
    let h = c.in_ok-solution.ensures {u = tt} in
    let t = subst (λ f. Tells n (first_system ls b ss) f) c.in-Solved.is h in
    let ps = puts_of c.in-Solved.solution.puts.items in
    ([], refl, ps, none_more (λ x. IsSolved n (first_system ls b x) ps c.in-Solved.solution.values.items) ss t)

pub returns-in_ok-make_stuck-in-Far : goal.returns-in_ok-make_stuck-in-Far
returns-in_ok-make_stuck-in-Far c =
    let ls = plain_literals c.args.literals.now in
    let b = c.args.bounded in
    let ss = c.args.sides.now in
    let n = count_variables ls in
    let h = c.in_ok-solution.ensures {u = tt} in
    let t = subst (λ f. Tells n (first_system ls b ss) f) c.in-Far.is h in
    let s = c.in_ok-make_stuck-in-Far.field-0 in
    let m = c.in_ok-make_stuck-in-Far.ensures {u = tt} in
    let k = subst (λ p. IsFarOff n (first_system ls b ss) (puts_of p.items)) (sym m.1) t in
    named_here (λ x. IsFarOff n (first_system ls b x) (puts_of s.puts.items)) ss s.sides.items m.0 k
