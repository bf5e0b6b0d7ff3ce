use Rattle.std.proofs.Common.{◌-◌, arith, subst, ◌∙◌}
use Rattle.std.proofs.lemmas.Result.{IfOk-weaker}
use Rattle.lin_solve.specs.Plain.{plain_literals}
use Rattle.lin_solve.specs.Tried.{TellsSides}
use Rattle.lin_solve.proofs.Tries.{second}
use Rattle.lin_solve.proofs.tried.+try_sides.Goals as goal

pub returns-then-not-branch : goal.returns-then-not-branch
returns-then-not-branch t c = λ more k. (c.in_ok-may_hold.ensures {u = tt}) c.if-not-branch.true c.args.bounded more

pub returns : goal.returns
returns t c =
    let ls = plain_literals c.args.literals.now in
    let b = c.args.bounded in
    let ss = c.args.sides.now in
    let n = c.args.left in
    let some = c.if-left-eq0.false in
    let h = c.in_ok-values.ensures {u = tt} in
    let none = subst (TellsSides ls b c.deref.result.now (n - 1)) c.in-Unsat.is h in
    IfOk-weaker c.try_sides-2.result (TellsSides ls b c.deref-2.result.now (n - 1)) (TellsSides ls b ss n)
    (λ f k. second ls b ss c.deref.result.now c.deref-2.result.now (n - 1) n (c.deref.ensures.value ∙ c.in_ok-one.ensures {u = tt}) (c.deref-2.ensures.value ∙ c.in_ok-other.ensures {u = tt}) (omega arith) none f k) c.try_sides-2.ensures
