use Rattle.std.proofs.Common.{List, sym, subst, Option, Vec, Global}
use Rattle.std.specs.Prelude.{IfSome}
use Rattle.model_chain.specs.Literals.{HoldsAll}
use Rattle.label_core.specs.declared.theory.Lit.{Lit}
use Rattle.lin_solve.specs.declared.compare.Compare.{Compare}
use Rattle.lin_solve.specs.Plain.{plain_literals}
use Rattle.lin_solve.specs.Equations.{HoldAlso}
use Rattle.lin_solve.proofs.equations.equated.Goals.{in-Some, in_default}
use Rattle.lin_solve.proofs.equations.equated.Goals as goal

pub loop-place-preserved : goal.loop-place-preserved
loop-place-preserved c = λ us eight h.
    let old = c.loop-place.invariant us eight h in
    elim c.match-branch-2.branch [
      | in-Some w ↦
          let found = subst (λ (o : Option (Vec (Lit Compare) Global)). IfSome o (λ r. HoldAlso c.deref.result.now r.items)) w.in-Some.is (c.in_ok-put.ensures {u = tt}) in
          subst (λ (v : Vec (Lit Compare) Global). HoldsAll (plain_literals v.items) us) (sym w.own-is) (found us eight (subst (λ (ls : List (Lit Compare)). HoldsAll (plain_literals ls) us) (sym c.deref.ensures.value) old))
      | in_default w ↦ subst (λ (v : Vec (Lit Compare) Global). HoldsAll (plain_literals v.items) us) (sym w.own-is) old
    ]
