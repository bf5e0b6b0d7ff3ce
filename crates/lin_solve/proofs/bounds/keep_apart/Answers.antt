use Rattle.std.proofs.Common.{◌≡◌, sym, subst}
use Rattle.model_chain.specs.Literals.{HoldsAll, compare_holds}
use Rattle.lin_solve.specs.Plain.{plain_compare, plain_literals}
use Rattle.lin_solve.specs.Sought.{TellsExplored}
use Rattle.lin_solve.proofs.Bounded.{other_holds}
use Rattle.lin_solve.proofs.Seeking.{pushed_hold}
use Rattle.lin_solve.proofs.bounds.keep_apart.Goals as goal

pub returns-in-Never : goal.returns-in-Never
returns-in-Never c = λ us eight h.
    let outside = c.in_ok-outside.outside in
    let kept = c.in_ok-kept.kept in
    let never = subst (TellsExplored (plain_literals c.deref-2.result.now)) c.in-Never.is (c.in_ok-explore_loosely.ensures {u = tt}) in
    let before = subst (λ ls. HoldsAll (plain_literals ls) us) (sym c.deref.ensures.value) h in
    let no : compare_holds (plain_compare outside.atom) us ≡ outside.sign → ⊥ =
    λ own. never us eight (subst (λ ls. HoldsAll (plain_literals ls) us) (sym c.deref-2.ensures.value) (c.in_ok-own.ensures {u = tt} us before own)) in
    let other = other_holds _ c.args.sign us outside kept (c.in_ok-outside.ensures {u = tt}) (c.in_ok-kept.ensures {u = tt}) no in
    pushed_hold c.args.literals.now.items _ kept us (c.in_ok-push.ensures {u = tt}).items other h
