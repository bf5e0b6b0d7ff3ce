use Rattle.std.proofs.Common.{◌<◌, ⊎_elim, inl, inr, sym, subst, arith, Vec, Global}
use Rattle.math_cooper.specs.System.{IsSolvable}
use Rattle.lin_reduce.specs.declared.nodes.Node.{Node}
use Rattle.lin_reduce.specs.Parts.{AnySolvable, TellsLook, TellsNever}
use Rattle.lin_reduce.proofs.Splitting.{added, none_solvable, popped}
use Rattle.lin_reduce.proofs.nodes.run.Goals.{then-ends-eq0, else-ends-eq0, in-Lost, in-Split+in_ok-push_parts-in-Split, in-Solve+in_ok-push_solved-in-Solve, in-Cut+else-cuts-gt-MOST_CUTS+in_ok-push_cut-in-Cut, in-Open+else-ends-ge-MOST_ENDS}
use Rattle.lin_reduce.proofs.nodes.run.Goals as goal

pub loop-init : goal.loop-init
loop-init c = λ s. inr (added c.args.count _ _ _ (c.in_ok-push.ensures {u = tt}).items (subst (IsSolvable c.args.count) (sym (c.in_ok-first.ensures {u = tt})) s))

pub returns-in_default : goal.returns-in_default
returns-in_default c =
    let n = c.args.count in
    let S = c.args.system.now in
    elim c.if-ends-eq0.branch [
      | then-ends-eq0 w ↦ subst (TellsNever n S) (sym w.result-is) (λ s. ⊎_elim (λ l. let e = w.if-ends-eq0.true in absurd (omega arith)) (none_solvable n c.loop.pending.items (let e = (c.in_default.ensures {u = tt}).cases.0 in let ok = c.loop.pending.ok in omega arith)) (c.loop.invariant s))
      | else-ends-eq0 w ↦ subst (TellsNever n S) (sym w.result-is) tt
    ]

pub loop-preserved : goal.loop-preserved
loop-preserved c = λ s.
    let n = c.args.count in
    let S = c.in-Some.node.system.items in
    elim c.match-branch-4.branch [
      | in-Lost w ↦
          let none = subst (TellsLook S) w.in-Lost.is (c.in_ok-look.ensures {u = tt}) in
          let after = λ (a : AnySolvable n c.pop.new.self.items). subst (λ (v : Vec Node Global). AnySolvable n v.items) (sym w.pending-is) a in
          ⊎_elim (λ l. inl (subst (λ k. 0 < k) (sym w.ends-is) l))
          (λ a. inr (⊎_elim (λ (t : IsSolvable n S). absurd (none t.0 t.2)) after (popped n _ _ c.in-Some.node (c.in-Some.ensures {u = tt}).items a)))
          (c.loop.invariant s)
      | in-Split+in_ok-push_parts-in-Split w ↦
          let told = w.in_ok-push_parts-in-Split.ensures {u = tt} in
          let after = λ (a : AnySolvable n w.push_parts.new.pending.items). subst (λ (v : Vec Node Global). AnySolvable n v.items) (sym w.pending-is) a in
          ⊎_elim (λ l. inl (subst (λ k. 0 < k) (sym w.ends-is) l))
          (λ a. inr (⊎_elim (λ t. after (told.parts t)) (λ b. after (told.kept b)) (popped n _ _ c.in-Some.node (c.in-Some.ensures {u = tt}).items a)))
          (c.loop.invariant s)
      | in-Solve+in_ok-push_solved-in-Solve w ↦
          let told = w.in_ok-push_solved-in-Solve.ensures {u = tt} in
          let after = λ (a : AnySolvable n w.push_solved.new.pending.items). subst (λ (v : Vec Node Global). AnySolvable n v.items) (sym w.pending-is) a in
          ⊎_elim (λ l. inl (subst (λ k. 0 < k) (sym w.ends-is) l))
          (λ a. inr (⊎_elim (λ t. after (told.part t)) (λ b. after (told.kept b)) (popped n _ _ c.in-Some.node (c.in-Some.ensures {u = tt}).items a)))
          (c.loop.invariant s)
      | in-Cut+else-cuts-gt-MOST_CUTS+in_ok-push_cut-in-Cut w ↦
          let told = w.in_ok-push_cut-in-Cut.ensures {u = tt} in
          let after = λ (a : AnySolvable n w.push_cut.new.pending.items). subst (λ (v : Vec Node Global). AnySolvable n v.items) (sym w.pending-is) a in
          ⊎_elim (λ l. inl (subst (λ k. 0 < k) (sym w.ends-is) l))
          (λ a. inr (⊎_elim (λ t. after (told.parts t)) (λ b. after (told.kept b)) (popped n _ _ c.in-Some.node (c.in-Some.ensures {u = tt}).items a)))
          (c.loop.invariant s)
      | in-Open+else-ends-ge-MOST_ENDS w ↦ inl (subst (λ k. 0 < k) (sym w.ends-is) (let h = w.saturating_add-ends.ensures in omega arith))
    ]
