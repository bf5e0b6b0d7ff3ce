use Rattle.std.proofs.Common.{◌≡◌, ◌∙◌, ⊎_elim, ap, sym, subst, arith, Vec, Global, ◌++◌, ◌∷◌, [], List}
use Rattle.std.proofs.Math.IntN.{ℤ}
use Rattle.std.proofs.lemmas.Bool.{ltb-true}
use Rattle.lin_solve.specs.declared.cases.Case.{Case}
use Rattle.lin_solve.specs.Cases.{SomeCase}
use Rattle.lin_solve.proofs.Among.{some_added, some_grown}
use Rattle.lin_solve.proofs.Cased.{below_or_last, part_is, some_part}
use Rattle.lin_solve.proofs.cases.Case.push_parts.Goals.{then-not-is_lost+in_ok-push, else-not-is_lost}
use Rattle.lin_solve.proofs.cases.Case.push_parts.Goals as goal

pub loop-number-preserved : goal.loop-number-preserved
loop-number-preserved c =
    let self = c.args.self.now in
    let own = c.in-Some.ensures {u = tt} in
    let old = c.loop-number.pending.items in
    let inv = c.loop-number.invariant in
    elim c.if-not-is_lost.branch [
      | then-not-is_lost+in_ok-push w ↦
          let is : c.if-not-is_lost.pending.items ≡ old ++ c.in-Some.part ∷ [] = ap (λ (v : Vec Case Global). v.items) w.pending-is ∙ (w.in_ok-push.ensures {u = tt}).items in
          record {
            parts = λ us holds m low here. ⊎_elim (λ l. some_grown old _ c.in-Some.part is (inv.parts us holds m l here)) (λ e. some_added old _ c.in-Some.part is (own us (part_is self c.args.turn us m c.loop-number.number e here))) (below_or_last m c.loop-number.number low);
            kept = λ us s. some_grown old _ c.in-Some.part is (inv.kept us s);
          }
      | else-not-is_lost w ↦
          let same : (us : List ℤ) → SomeCase us old → SomeCase us c.if-not-is_lost.pending.items = λ us s. subst (λ (v : Vec Case Global). SomeCase us v.items) (sym w.pending-is) s in
          record {
            parts = λ us holds m low here. ⊎_elim (λ l. same us (inv.parts us holds m l here)) (λ e. absurd (c.is_lost.ensures w.if-not-is_lost.false us (own us (part_is self c.args.turn us m c.loop-number.number e here)) holds)) (below_or_last m c.loop-number.number low);
            kept = λ us s. same us (inv.kept us s);
          }
    ]

pub returns-clause-parts : goal.returns-clause-parts
returns-clause-parts c = λ some us h holds.
    let end = c.loop-number.auto.number-end in
    let p = some_part c.args.self.now c.args.turn us (ltb-true 0 c.args.turn.times some) h in
    let low = p.1 in
    let past = c.loop-number-test.false in
    c.loop-number.invariant.parts us holds p.0 (omega arith) p.2
