use Rattle.std.proofs.Common.{◌≡◌, get_or, rules, sym, subst, to_z, of_z}
use Rattle.std.proofs.Math.IntN.{pos}
use Rattle.std.specs.Prelude.{◌<ℤ◌, ◌≤ℤ◌}
use Rattle.std.specs.Int.{w64}
use Rattle.std.proofs.lemmas.Int.{to_z-of_z}
use Rattle.lin_solve.proofs.Branched.{less_holds, not_less_holds, literal_so}
use Rattle.lin_solve.proofs.branches.Branch.push_outside.Goals as goal

pub returns-clause-below : goal.returns-clause-below
returns-clause-below c = λ us eight h l.
    let same : to_z w64 (of_z w64 c.args.from) ≡ c.args.from = to_z-of_z w64 c.args.from (search rules) in
    let less = less_holds c.args.field _ us (subst (λ n. get_or us c.args.field (pos 0) <ℤ n) (sym same) l) in
    (c.in_ok-push_with-2.ensures {u = tt}).kept ((c.in_ok-push_with.ensures {u = tt}).more us eight h (literal_so c.in_ok-below.below us (c.in_ok-below.ensures {u = tt}) less))

pub returns-clause-above : goal.returns-clause-above
returns-clause-above c = λ us eight h l.
    let same : to_z w64 (of_z w64 c.args.to) ≡ c.args.to = to_z-of_z w64 c.args.to (search rules) in
    let less = not_less_holds c.args.field _ us (subst (λ n. n ≤ℤ get_or us c.args.field (pos 0)) (sym same) l) in
    (c.in_ok-push_with-2.ensures {u = tt}).more us eight h (literal_so c.in_ok-above.above us (c.in_ok-above.ensures {u = tt}) less)

pub returns-clause-kept : goal.returns-clause-kept
returns-clause-kept c = λ s. (c.in_ok-push_with-2.ensures {u = tt}).kept ((c.in_ok-push_with.ensures {u = tt}).kept s)
