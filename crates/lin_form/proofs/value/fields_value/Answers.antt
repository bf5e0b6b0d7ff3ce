use Rattle.std.proofs.Common.{◌≡◌, ap, sym, ◌∙◌, arith, subst, rules, unsigned_abs, ◌≤◌, to_z, ◌^◌, ◌*◌, ◌+◌, get_or, drop, ◌<◌}
use Rattle.std.specs.Prelude.{FitsSigned, ◌*ℤ◌, ◌+ℤ◌, pos}
use Rattle.std.specs.Int.{w64, w128}
use Rattle.std.proofs.lemmas.Int.{to_z-of_z}
use Rattle.model_form.specs.Form.{terms_value}
use Rattle.lin_form.specs.Terms.{plain_fields}
use Rattle.lin_form.proofs.Evaluating.{fields_few, coefficient_at, fields_step, fits_64, sum_is, carried}
use Rattle.lin_form.specs.declared.form.FieldTerm.{FieldTerm}
use Rattle.lin_form.proofs.value.fields_value.Goals as goal

pub field_value-sum-requires : goal.field_value-sum-requires
field_value-sum-requires c =
    let d : FieldTerm = record { field = 0; coefficient = pos 0 } in
    let z = (get_or c.args.terms.now c.loop-term.term-index d).coefficient in
    let h = coefficient_at 0 c.args.terms.now c.loop-term.term-index d c.requires c.loop-term-test.true in
    subst (λ y. unsigned_abs y < 2 ^ 31) (sym (to_z-of_z w64 z (fits_64 z (omega (arith, h))))) h

pub overflow_add-sum : goal.overflow_add-sum
overflow_add-sum c =
    let f = fields_few 0 c.args.terms.now (omega arith) c.requires in
    let l = c.loop-term-test.true in
    (sum_is (to_z w128 c.loop-term.sum-bits) c.field_value-sum.result (c.loop-term.term-index * 2 ^ 94) (2 ^ 94) ((c.loop-term.term-index + 1) * 2 ^ 94) c.loop-term.invariant.small c.field_value-sum.ensures.small (omega arith) (omega arith)).fits

pub loop-term-preserved : goal.loop-term-preserved
loop-term-preserved c =
    let f = fields_few 0 c.args.terms.now (omega arith) c.requires in
    let l = c.loop-term-test.true in
    let d : FieldTerm = record { field = 0; coefficient = pos 0 } in
    let t = get_or c.args.terms.now c.loop-term.term-index d in
    let h = coefficient_at 0 c.args.terms.now c.loop-term.term-index d c.requires c.loop-term-test.true in
    let r = sum_is (to_z w128 c.loop-term.sum-bits) c.field_value-sum.result (c.loop-term.term-index * 2 ^ 94) (2 ^ 94) ((c.loop-term.term-index + 1) * 2 ^ 94) c.loop-term.invariant.small c.field_value-sum.ensures.small (omega arith) (omega arith) in
    let fv : FitsSigned w64 c.value_at.result = search rules in
    let p : c.field_value-sum.result ≡ t.coefficient *ℤ get_or c.args.values.now t.field (pos 0) =
    c.field_value-sum.ensures.value ∙ (λ i. to_z-of_z w64 t.coefficient (fits_64 t.coefficient (omega (arith, h))) i *ℤ (to_z-of_z w64 c.value_at.result fv ∙ c.value_at.ensures) i) in
    let next = fields_step c.args.terms.now c.loop-term.term-index d c.args.values.now l in
    record {
      value = ap (λ z. z +ℤ terms_value (plain_fields (drop (c.loop-term.term-index + 1) c.args.terms.now)) c.args.values.now) r.is
          ∙ carried (to_z w128 c.loop-term.sum-bits) c.field_value-sum.result _ _ _ c.loop-term.invariant.value (next ∙ ap (λ z. z +ℤ terms_value (plain_fields (drop (c.loop-term.term-index + 1) c.args.terms.now)) c.args.values.now) (sym p));
      small = subst (λ z. unsigned_abs z ≤ (c.loop-term.term-index + 1) * 2 ^ 94) (sym r.is) r.small;
    }

pub returns-clause-small : goal.returns-clause-small
returns-clause-small c = let f = fields_few 0 c.args.terms.now (omega arith) c.requires in let s = c.loop-term.invariant.small in let l = c.loop-term.auto.term-index-end in omega arith
