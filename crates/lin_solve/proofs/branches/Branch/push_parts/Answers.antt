use Rattle.std.proofs.Common.{◌≢◌, ◌∙◌, ⊎_elim, ap, subst, get_or, arith}
use Rattle.std.proofs.Math.IntN.{pos, ◌+ℤ◌, ◌*ℤ◌}
use Rattle.std.proofs.lemmas.Bool.{ltb-true}
use Rattle.math_int.proofs.Laws.{divide}
use Rattle.lin_solve.proofs.Cased.{below_or_last, same_or_other}
use Rattle.lin_solve.proofs.branches.Branch.push_parts.Goals as goal

pub loop-number-preserved : goal.loop-number-preserved
loop-number-preserved c =
    let told = c.in_ok-push_other.ensures {u = tt} in
    let inv = c.loop-number.invariant in
    record {
      parts = λ us q m eight h low other is.
          ⊎_elim (λ l. told.kept (inv.parts us q m eight h l other is)) (λ e. told.part c.if-not-branch.false (subst (λ n. n ≢ c.args.first) e other) us q eight h (is ∙ ap (λ n. (pos c.args.split.times *ℤ q) +ℤ pos n) e)) (below_or_last m c.loop-number.number low);
      kept = λ s. told.kept (inv.kept s);
    }

pub returns-clause-parts : goal.returns-clause-parts
returns-clause-parts c = λ some held.
    let end = c.loop-number.auto.number-end in
    let past = c.loop-number-test.false in
    let told = c.in_ok-push_part.ensures {u = tt} in
    let d = divide c.args.split.times (ltb-true 0 c.args.split.times some) (get_or held.values c.args.split.field (pos 0)) in
    let low = d.2 in
    ⊎_elim (λ e. told.part c.if-not-branch-2.false held.values d.0 held.eight held.hold (d.3 ∙ ap (λ n. (pos c.args.split.times *ℤ d.0) +ℤ pos n) e)) (λ other. told.kept (c.loop-number.invariant.parts held.values d.0 d.1 held.eight held.hold (omega arith) other d.3)) (same_or_other d.1 c.args.first)

pub returns-then-not-branch-clause-kept : goal.returns-then-not-branch-clause-kept
returns-then-not-branch-clause-kept c = λ s. (c.in_ok-push_other.ensures {u = tt}).kept (c.loop-number.invariant.kept s)

pub returns-then-not-branch-2-clause-kept : goal.returns-then-not-branch-2-clause-kept
returns-then-not-branch-2-clause-kept c = λ s. (c.in_ok-push_part.ensures {u = tt}).kept (c.loop-number.invariant.kept s)

pub returns-clause-kept : goal.returns-clause-kept
returns-clause-kept c = λ s. (c.in_ok-push_part.ensures {u = tt}).kept (c.loop-number.invariant.kept s)
