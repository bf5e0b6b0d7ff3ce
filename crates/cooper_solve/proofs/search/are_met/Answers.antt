use Rattle.std.proofs.Common.{subst, refl, take_all, arith, []}
use Rattle.std.proofs.lemmas.List.Elements.{All-more}
use Rattle.std.specs.List.{All}
use Rattle.math_cooper.specs.System.{Holds}
use Rattle.cooper_solve.proofs.search.are_met.Goals as goal

pub loop-constraint-preserved : goal.loop-constraint-preserved
loop-constraint-preserved c =
    All-more (Holds []) c.args.system.now c.loop-constraint.constraint-index c.constraint-item.result (omega arith) c.loop-constraint.invariant (subst (Holds []) c.constraint-item.is ((c.if-not-is_met.ensures {u = tt}).0 refl))

pub returns : goal.returns
returns c = (λ _. subst (All (Holds [])) (take_all c.loop-constraint.constraint-index c.args.system.now (omega arith)) c.loop-constraint.invariant, λ _. refl)
