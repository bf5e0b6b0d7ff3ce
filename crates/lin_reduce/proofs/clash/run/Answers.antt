use Rattle.std.proofs.Common.{⊎_elim, sym, subst, Vec, Global}
use Rattle.math_cooper.specs.System.{IsSolvable}
use Rattle.lin_reduce.specs.declared.nodes.Node.{Node}
use Rattle.lin_reduce.specs.Parts.{AnySolvable, TellsLook}
use Rattle.lin_reduce.proofs.Splitting.{added, popped}
use Rattle.lin_reduce.proofs.clash.run.Goals.{in-Lost, in-Split+in_ok-push_parts-in-Split, in-Solve+in_ok-push_solved-in-Solve}
use Rattle.lin_reduce.proofs.clash.run.Goals as goal

pub loop-init : goal.loop-init
loop-init c = λ s. added c.args.count _ _ _ (c.in_ok-push.ensures {u = tt}).items (subst (IsSolvable c.args.count) (sym (c.in_ok-first.ensures {u = tt})) s)

pub loop-preserved : goal.loop-preserved
loop-preserved c = λ s.
    let n = c.args.count in
    let S = c.in-Some.node.system.items in
    let one = popped n _ _ c.in-Some.node (c.in-Some.ensures {u = tt}).items (c.loop.invariant s) in
    elim c.match-step.branch [
      | in-Lost w ↦
          let none = subst (TellsLook S) w.in-Lost.is c.step.ensures in
          ⊎_elim (λ (t : IsSolvable n S). absurd (none t.0 t.2)) (λ (a : AnySolvable n c.pop.new.self.items). subst (λ (v : Vec Node Global). AnySolvable n v.items) (sym w.pending-is) a) one
      | in-Split+in_ok-push_parts-in-Split w ↦
          let told = w.in_ok-push_parts-in-Split.ensures {u = tt} in
          let after = λ (a : AnySolvable n w.push_parts.new.pending.items). subst (λ (v : Vec Node Global). AnySolvable n v.items) (sym w.pending-is) a in
          ⊎_elim (λ t. after (told.parts t)) (λ b. after (told.kept b)) one
      | in-Solve+in_ok-push_solved-in-Solve w ↦
          let told = w.in_ok-push_solved-in-Solve.ensures {u = tt} in
          let after = λ (a : AnySolvable n w.push_solved.new.pending.items). subst (λ (v : Vec Node Global). AnySolvable n v.items) (sym w.pending-is) a in
          ⊎_elim (λ t. after (told.part t)) (λ b. after (told.kept b)) one
    ]
