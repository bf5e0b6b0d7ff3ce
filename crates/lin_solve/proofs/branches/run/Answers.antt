use Rattle.std.proofs.Common.{⊎_elim, sym, subst, Vec, Global}
use Rattle.model_chain.specs.Literals.{HoldsAll}
use Rattle.lin_solve.specs.declared.branches.Branch.{Branch}
use Rattle.lin_solve.specs.Plain.{plain_literals}
use Rattle.lin_solve.specs.Branches.{IsHeld, SomeHeld}
use Rattle.lin_solve.specs.Sought.{TellsExplored}
use Rattle.lin_solve.proofs.Among.{some_added, some_popped}
use Rattle.lin_solve.proofs.branches.run.Goals.{in-Never, in-Open+in_ok-push_next-in-Open+else-not-branch, in-Maybe+in_ok-values-in-Maybe+else-len-eq8+in_ok-push_next-in-Maybe+else-not-branch-2}
use Rattle.lin_solve.proofs.branches.run.Goals as goal

pub loop-init : goal.loop-init
loop-init c = λ h. some_added _ _ _ (c.in_ok-push.ensures {u = tt}).items (record { values = h.values; eight = h.eight; hold = c.in_ok-first_literals.ensures {u = tt} h.values h.eight h.hold })

pub loop-preserved : goal.loop-preserved
loop-preserved c = λ h.
    let popped = some_popped _ _ c.in-Some.own (c.in-Some.ensures {u = tt}).items (c.loop.invariant h) in
    elim c.match-branch-4.branch [
      | in-Never w ↦
          let gone = subst (TellsExplored (plain_literals c.deref.result.now)) w.in-Never.is (c.in_ok-explore_loosely.ensures {u = tt}) in
          let after = λ (s : SomeHeld c.pop.new.self.items). subst (λ (v : Vec Branch Global). SomeHeld v.items) (sym w.pending-is) s in
          ⊎_elim (λ (t : IsHeld c.in-Some.own). absurd (gone t.values t.eight (subst (λ ls. HoldsAll (plain_literals ls) t.values) (sym c.deref.ensures.value) t.hold))) after popped
      | in-Open+in_ok-push_next-in-Open+else-not-branch w ↦
          let told = w.in_ok-push_next-in-Open.ensures {u = tt} in
          let after = λ (s : SomeHeld w.push_next.new.pending.items). subst (λ (v : Vec Branch Global). SomeHeld v.items) (sym w.pending-is) s in
          ⊎_elim (λ (t : IsHeld c.in-Some.own). after (told.parts w.if-not-branch.false t)) (λ s. after (told.kept s)) popped
      | in-Maybe+in_ok-values-in-Maybe+else-len-eq8+in_ok-push_next-in-Maybe+else-not-branch-2 w ↦
          let told = w.in_ok-push_next-in-Maybe.ensures {u = tt} in
          let after = λ (s : SomeHeld w.push_next-in-Maybe.new.pending.items). subst (λ (v : Vec Branch Global). SomeHeld v.items) (sym w.pending-is) s in
          ⊎_elim (λ (t : IsHeld c.in-Some.own). after (told.parts w.if-not-branch-2.false t)) (λ s. after (told.kept s)) popped
    ]
