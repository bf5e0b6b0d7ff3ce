use Rattle.std.proofs.Common.{◌≡◌, ◌+◌, ◌*◌, ◌^◌, length, get_or, drop, ap, sym, subst, ◌∙◌, arith, rules, to_z, of_z}
use Rattle.std.proofs.Math.IntN.{pos, ◌*ℤ◌}
use Rattle.std.specs.Prelude.{FitsSigned}
use Rattle.std.specs.Int.{w128}
use Rattle.std.proofs.lemmas.List.{get_or_default}
use Rattle.model_form.specs.Sums.{sign, add_fields}
use Rattle.lin_form.specs.declared.form.FieldTerm.{FieldTerm}
use Rattle.lin_form.specs.Terms.{plain_fields}
use Rattle.lin_solve.specs.Plain.{Within}
use Rattle.lin_solve.proofs.Filled.{fields_step, field_coefficient, within_up, coefficient_back, signed_back, one_row, grown, few_terms}
use Rattle.lin_solve.proofs.rows.add_fields.Goals as goal

pub signed-requires : goal.signed-requires
signed-requires c =
    let ts = c.args.terms.now in
    let k = c.loop-term.term-index in
    let d : FieldTerm = record { field = 0; coefficient = pos 0 } in
    let t = get_or ts k d in
    coefficient_back t.coefficient (field_coefficient ts k t c.requires.fields c.loop-term-test.true (get_or_default ts k d t c.loop-term-test.true))

pub add_at-requires-clause-small : goal.add_at-requires-clause-small
add_at-requires-clause-small c =
    let few = c.loop-term-test.true in
    let short = few_terms c.args.terms.now c.requires.fields in
    within_up (2 ^ 110 + c.loop-term.term-index * 2 ^ 31) (2 ^ 120) c.loop-term.row.items (omega arith) (c.loop-term.invariant.small (2 ^ 110) c.requires.small)

pub loop-term-preserved : goal.loop-term-preserved
loop-term-preserved c =
    let ts = c.args.terms.now in
    let k = c.loop-term.term-index in
    let d : FieldTerm = record { field = 0; coefficient = pos 0 } in
    let t = get_or ts k d in
    let same = get_or_default ts k d t c.loop-term-test.true in
    let own = field_coefficient ts k t c.requires.fields c.loop-term-test.true same in
    let fs : FitsSigned w128 c.signed.result = search rules in
    let by = sign c.args.minus in
    let number = signed_back t.coefficient c.signed.result c.args.minus own c.signed.ensures.value fs in
    let next = one_row c.loop-term.row.items c.add_at.new.row.items t.field (to_z w128 (of_z w128 c.signed.result)) (by *ℤ t.coefficient) c.add_at.ensures.row number in
    record {
      row = ap (add_fields by (plain_fields (drop (k + 1) ts))) next ∙ sym (fields_step by ts k t c.loop-term.row.items c.loop-term-test.true same) ∙ c.loop-term.invariant.row;
      small = λ b h. grown b k c.args.row.now.items c.loop-term.row.items c.add_at.new.row.items c.loop-term.invariant.small c.add_at.ensures.small h;
    }

pub returns-clause-small : goal.returns-clause-small
returns-clause-small c = λ b h. let e : c.loop-term.term-index ≡ length c.args.terms.now = omega arith in subst (λ n. Within (b + n * 2 ^ 31) c.loop-term.row.items) e (c.loop-term.invariant.small b h)
