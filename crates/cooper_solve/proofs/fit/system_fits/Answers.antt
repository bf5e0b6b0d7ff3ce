use Rattle.std.proofs.Common.{arith, take_all, subst}
use Rattle.std.specs.List.{All}
use Rattle.std.proofs.lemmas.List.Elements.{All-more, All-contains}
use Rattle.math_cooper.specs.Puts.{InCondition, AllFit}
use Rattle.cooper_solve.proofs.fit.system_fits.Goals as goal

pub loop-constraint-preserved : goal.loop-constraint-preserved
loop-constraint-preserved c =
    All-more (λ x. AllFit (InCondition x)) c.args.system.now c.loop-constraint.constraint-index c.constraint-item.result (omega arith) c.loop-constraint.invariant (subst (λ x. AllFit (InCondition x)) c.constraint-item.is c.condition_fits.ensures)

pub returns : goal.returns
returns c = λ z n.
    let all : All (λ x. AllFit (InCondition x)) c.args.system.now = subst (All (λ x. AllFit (InCondition x))) (take_all c.loop-constraint.constraint-index c.args.system.now (omega arith)) c.loop-constraint.invariant in
    All-contains (λ x. AllFit (InCondition x)) c.args.system.now n.0 all n.1 z n.2
