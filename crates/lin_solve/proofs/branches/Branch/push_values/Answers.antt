use Rattle.std.proofs.Common.{◌≡◌, ◌∙◌, ◌⊎◌, ⊎_elim, inl, inr, get_or, rules, sym, subst, to_z, of_z}
use Rattle.std.proofs.Math.IntN.{pos, ◌+ℤ◌}
use Rattle.std.specs.Prelude.{◌<ℤ◌, ◌≤ℤ◌}
use Rattle.std.specs.Int.{w64}
use Rattle.std.proofs.lemmas.Int.{to_z-of_z}
use Rattle.lin_solve.proofs.Branched.{below_or_same, before_or_from, fits_next, same_or_another}
use Rattle.lin_solve.proofs.branches.Branch.push_values.Goals as goal

pub loop-value-init : goal.loop-value-init
loop-value-init c =
    let told = c.in_ok-push_outside.ensures {u = tt} in
    let back : to_z w64 (of_z w64 c.args.values.to) ≡ c.args.values.to = to_z-of_z w64 c.args.values.to (search rules) in
    record {
      parts = λ us eight h at _. ⊎_elim (λ l. told.below us eight h l) (λ l. told.above us eight h (subst (λ z. z ≤ℤ get_or us c.args.field (pos 0)) (sym back) l)) at;
      kept = λ s. s;
    }

pub loop-value-preserved : goal.loop-value-preserved
loop-value-preserved c =
    let told = c.in_ok-push_other_value.ensures {u = tt} in
    let inv = c.loop-value.invariant in
    let v = to_z w64 c.loop-value.value-bits in
    let first : to_z w64 (of_z w64 c.args.values.first) ≡ c.args.values.first = to_z-of_z w64 c.args.values.first (search rules) in
    let next : to_z w64 (of_z w64 (v +ℤ pos 1)) ≡ v +ℤ pos 1 = to_z-of_z w64 (v +ℤ pos 1) (fits_next v (to_z w64 (of_z w64 c.args.values.to)) (search rules) (search rules) c.loop-value-test.true) in
    record {
      parts = λ us eight h at other.
          let x = get_or us c.args.field (pos 0) in
          ⊎_elim (λ l. ⊎_elim (λ k. told.kept (inv.parts us eight h (inl k) other)) (λ e. told.value (λ d. other (e ∙ (d ∙ first))) us eight h e) (below_or_same x v (subst (λ z. x <ℤ z) next l))) (λ l. told.kept (inv.parts us eight h (inr l) other)) at;
      kept = λ s. told.kept (inv.kept s);
    }

pub returns-clause-parts : goal.returns-clause-parts
returns-clause-parts c = λ some held.
    let told = c.in_ok-push_value.ensures {u = tt} in
    let x = get_or held.values c.args.field (pos 0) in
    let t = to_z w64 (of_z w64 c.args.values.to) in
    let v = to_z w64 c.loop-value.value-bits in
    let first : to_z w64 (of_z w64 c.args.values.first) ≡ c.args.values.first = to_z-of_z w64 c.args.values.first (search rules) in
    let back : t ≡ c.args.values.to = to_z-of_z w64 c.args.values.to (search rules) in
    let at : (x <ℤ v) ⊎ (c.args.values.to ≤ℤ x) = ⊎_elim (λ l. inl l) (λ l. inr (subst (λ z. z ≤ℤ x) back l)) (before_or_from x t v c.loop-value-test.false) in
    ⊎_elim (λ e. told.value held.values held.eight held.hold (e ∙ sym first)) (λ other. told.kept (c.loop-value.invariant.parts held.values held.eight held.hold at other)) (same_or_another x c.args.values.first)

pub returns-clause-kept : goal.returns-clause-kept
returns-clause-kept c = λ s. (c.in_ok-push_value.ensures {u = tt}).kept (c.loop-value.invariant.kept ((c.in_ok-push_outside.ensures {u = tt}).kept s))
