use Rattle.std.proofs.Common.{⊎_elim, sym, subst, Vec, Global}
use Rattle.lin_solve.specs.declared.cases.Case.{Case}
use Rattle.lin_solve.specs.Cases.{SomeCase, TellsNext}
use Rattle.lin_solve.proofs.Among.{some_popped}
use Rattle.lin_solve.proofs.Gapped.{literal_here}
use Rattle.lin_solve.proofs.cases.seek_cases.Goals.{in-Lost, in-Split+else-turn-left+in_ok-push_parts-in-Split+else-not-branch}
use Rattle.lin_solve.proofs.cases.seek_cases.Goals as goal

pub loop-preserved : goal.loop-preserved
loop-preserved c = λ us eight h.
    let ls = c.args.literals.now in
    let case = c.in-Some.case in
    let popped = some_popped _ _ case (c.in-Some.ensures {u = tt}).items (c.loop.invariant us eight h) in
    elim c.match-next_of.branch [
      | in-Lost w ↦
          let gone = subst (TellsNext ls case) w.in-Lost.is c.next_of.ensures in
          let after = λ (s : SomeCase us c.pop.new.self.items). subst (λ (v : Vec Case Global). SomeCase us v.items) (sym w.pending-is) s in
          ⊎_elim (λ t. absurd (gone us t h)) after popped
      | in-Split+else-turn-left+in_ok-push_parts-in-Split+else-not-branch w ↦
          let low = subst (TellsNext ls case) w.in-Split.is c.next_of.ensures in
          let told = w.in_ok-push_parts-in-Split.ensures {u = tt} in
          let after = λ (s : SomeCase us w.push_parts.new.pending.items). subst (λ (v : Vec Case Global). SomeCase us v.items) (sym w.pending-is) s in
          ⊎_elim (λ t. after (told.parts w.if-not-branch.false us t (literal_here ls w.in-Split.number w.index-literals-number.result us w.index-literals-number.is low h))) (λ s. after (told.kept us s)) popped
    ]
