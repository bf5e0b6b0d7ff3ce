use Rattle.std.proofs.Common.{⊎_elim, sym, subst, arith, Vec, Global}
use Rattle.label_core.specs.declared.theory.Lit.{Lit}
use Rattle.lin_solve.specs.declared.compare.Compare.{Compare}
use Rattle.model_chain.specs.Literals.{HoldsAll}
use Rattle.lin_solve.specs.Plain.{plain_literals}
use Rattle.lin_solve.specs.Sought.{SomeHold, TellsExplored}
use Rattle.lin_solve.proofs.found.seek.Goals.{in-Never, in-Maybe+else-len-eq8+in_ok-push_sides-in-Maybe+else-not-branch}
use Rattle.lin_solve.proofs.Among.{some_added, some_popped}
use Rattle.lin_solve.proofs.found.seek.Goals as goal

pub loop-init : goal.loop-init
loop-init c = λ us eight h. some_added _ _ _ (c.in_ok-push.ensures {u = tt}).items (c.in_ok-sided.ensures {u = tt} us h (λ d l. absurd (omega arith)))

pub loop-preserved : goal.loop-preserved
loop-preserved c = λ us eight h.
    let popped = some_popped _ _ c.in-Some.own (c.in-Some.ensures {u = tt}).items (c.loop.invariant us eight h) in
    elim c.match-branch-4.branch [
      | in-Never w ↦
          let gone = subst (TellsExplored (plain_literals c.deref.result.now)) w.in-Never.is (c.in_ok-explore_sideless.ensures {u = tt}) in
          let after = λ (s : SomeHold us c.pop.new.self.items). subst (λ (v : Vec (Vec (Lit Compare) Global) Global). SomeHold us v.items) (sym w.pending-is) s in
          ⊎_elim (λ t. absurd (gone us eight (subst (λ ls. HoldsAll (plain_literals ls) us) (sym c.deref.ensures.value) t))) after popped
      | in-Maybe+else-len-eq8+in_ok-push_sides-in-Maybe+else-not-branch w ↦
          let told = w.in_ok-push_sides-in-Maybe.ensures {u = tt} in
          let after = λ (s : SomeHold us w.push_sides.new.pending.items). subst (λ (v : Vec (Vec (Lit Compare) Global) Global). SomeHold us v.items) (sym w.pending-is) s in
          ⊎_elim (λ t. after (told.sides w.if-not-branch.false us (subst (λ ls. HoldsAll (plain_literals ls) us) (sym w.deref-in-Maybe.ensures.value) t))) (λ s. after (told.kept us s)) popped
    ]
