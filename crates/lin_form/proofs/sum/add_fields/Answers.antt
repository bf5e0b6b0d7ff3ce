use Rattle.std.proofs.Common.{suc, ◌≡◌, ap, sym, ◌∙◌, subst, arith, get_or, drop, to_z, of_z, ◌+◌, ◌*◌, ◌<◌, ◌≤◌, ◌^◌, refl, unsigned_abs}
use Rattle.std.proofs.Math.ListN.{set, length-set}
use Rattle.std.specs.Prelude.{pos, ◌*ℤ◌, ◌+ℤ◌}
use Rattle.std.specs.Int.{w128}
use Rattle.std.proofs.lemmas.Int.{to_z-of_z}
use Rattle.model_form.specs.Sums.{add_fields}
use Rattle.model_form.specs.Ranges.{AreFields}
use Rattle.lin_form.specs.Within.{TotalsBefore}
use Rattle.lin_form.proofs.Gathering.{totals_begin, total_at, totals_step, sum_within}
use Rattle.lin_form.specs.Terms.{plain_fields}
use Rattle.lin_form.specs.declared.form.FieldTerm.{FieldTerm}
use Rattle.lin_form.proofs.Likes.{has_room, fields_drop, held_64}
use Rattle.lin_form.proofs.sum.add_fields.Goals as goal

pub loop-term-init : goal.loop-term-init
loop-term-init c = record {
  value = refl;
  eight = c.requires.eight;
  small = (c.requires.small.0, 0, c.requires.small.1, c.requires.terms, totals_begin c.requires.small.0 0 c.args.totals.now c.requires.small.2);
}

pub overflow_add-totals : goal.overflow_add-totals
overflow_add-totals c =
    let d : FieldTerm = record { field = 0; coefficient = pos 0 } in
    let t = get_or c.args.terms.now c.loop-term.term-index d in
    let s = c.loop-term.invariant.small in
    let eight = c.loop-term.invariant.eight in
    let next = subst (AreFields s.1) (fields_drop c.args.terms.now c.loop-term.term-index d c.loop-term-test.true) s.3 in
    let low : s.1 ≤ t.field = next.0 in
    let high : t.field < 8 = next.1 in
    let m : s.0 ≤ 2 ^ 64 + 16 = s.2 in
    let room = total_at s.0 s.1 0 t.field c.loop-term.totals s.4 (omega arith) (omega arith) in
    (has_room s.0 (get_or c.loop-term.totals t.field (pos 0)) c.product.result (omega arith) room c.product.ensures.small).fits

pub loop-term-preserved : goal.loop-term-preserved
loop-term-preserved c =
    let d : FieldTerm = record { field = 0; coefficient = pos 0 } in
    let t = get_or c.args.terms.now c.loop-term.term-index d in
    let s = c.loop-term.invariant.small in
    let eight = c.loop-term.invariant.eight in
    let totals = c.loop-term.totals in
    let here = fields_drop c.args.terms.now c.loop-term.term-index d c.loop-term-test.true in
    let next = subst (AreFields s.1) here s.3 in
    let low : s.1 ≤ t.field = next.0 in
    let high : t.field < 8 = next.1 in
    let m : s.0 ≤ 2 ^ 64 + 16 = s.2 in
    let room = total_at s.0 s.1 0 t.field totals s.4 (omega arith) (omega arith) in
    let r = has_room s.0 (get_or totals t.field (pos 0)) c.product.result (omega arith) room c.product.ensures.small in
    let back = to_z-of_z w128 c.args.by c.ranges.by in
    let product : c.product.result ≡ to_z w128 (of_z w128 c.args.by) *ℤ t.coefficient = c.product.ensures.value ∙ (λ i. to_z w128 (of_z w128 c.args.by) *ℤ held_64 t.coefficient next.3 i) in
    let new = to_z w128 (of_z w128 (to_z w128 (of_z w128 (get_or totals t.field (pos 0))) +ℤ to_z w128 (of_z w128 c.product.result))) in
    let is : new ≡ get_or totals t.field (pos 0) +ℤ (to_z w128 (of_z w128 c.args.by) *ℤ t.coefficient) = r.is ∙ ap (λ z. get_or totals t.field (pos 0) +ℤ z) product in
    let within = subst (λ z. unsigned_abs z ≤ suc s.0 * 2 ^ 62) (sym r.is) (sum_within s.0 (get_or totals t.field (pos 0)) c.product.result room c.product.ensures.small) in
    let e : suc (0 + t.field) ≡ suc t.field = omega arith in
    record {
      value = ap (λ z. add_fields (to_z w128 (of_z w128 c.args.by)) (plain_fields (drop (c.loop-term.term-index + 1) c.args.terms.now)) (set totals t.field z)) is
          ∙ sym (ap (λ us. add_fields (to_z w128 (of_z w128 c.args.by)) us totals) here) ∙ c.loop-term.invariant.value;
      eight = length-set totals t.field new ∙ eight;
      small = (s.0, suc t.field, m, next.4, subst (λ k. TotalsBefore s.0 k 0 (set totals t.field new)) e (totals_step s.0 s.1 0 t.field totals new s.4 (omega arith) within));
    }
