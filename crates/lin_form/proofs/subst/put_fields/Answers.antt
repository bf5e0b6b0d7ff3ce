use Rattle.std.proofs.Common.{suc, ◌≡◌, ap, sym, ◌∙◌, subst, arith, get_or, drop, ◌+◌, ◌*◌, ◌<◌, ◌≤◌, ◌^◌, unsigned_abs, add-one}
use Rattle.std.specs.Prelude.{pos}
use Rattle.model_form.specs.Form.{remainders_of}
use Rattle.model_form.specs.Sums.{put_fields, add_form, number_form}
use Rattle.model_form.specs.Sums as model
use Rattle.model_form.specs.Ranges.{IsForm}
use Rattle.lin_form.specs.Whole.{AreInner}
use Rattle.lin_form.specs.Within.{IsGathered}
use Rattle.lin_form.proofs.Gathering.{gathered_more, gathered_later}
use Rattle.lin_form.specs.Terms.{plain_fields}
use Rattle.lin_form.specs.Gathered.{plain_sum}
use Rattle.lin_form.specs.declared.form.FieldTerm.{FieldTerm}
use Rattle.lin_form.proofs.Evaluating.{coefficient_at, fields_few}
use Rattle.lin_form.proofs.Likes.{fields_drop}
use Rattle.lin_form.proofs.Members.{get_or-any}
use Rattle.lin_form.proofs.Outside.{constant_more, constant_after}
use Rattle.lin_form.proofs.Putting.{add_none, past_end, held_128}
use Rattle.lin_form.proofs.subst.put_fields.Goals as goal

pub loop-term-preserved-in_default : goal.loop-term-preserved-in_default
loop-term-preserved-in_default c =
    let i = c.loop-term.term-index in
    let d : FieldTerm = record { field = 0; coefficient = pos 0 } in
    let t = get_or c.args.terms.now i d in
    let gs = c.args.forms.now in
    let s = plain_sum c.loop-term.sum in
    let here = fields_drop c.args.terms.now i d c.loop-term-test.true in
    let past = past_end gs t.field (number_form (pos 0)) ((c.in_default.ensures {u = tt}).lookup.3) in
    let rest = plain_fields (drop (i + 1) c.args.terms.now) in
    let k = c.loop-term.invariant.constant in
    record {
      value = ap (put_fields rest gs) (sym (ap (λ g. add_form t.coefficient g s) past ∙ add_none t.coefficient s)) ∙ sym (ap (λ us. put_fields us gs s) here) ∙ c.loop-term.invariant.value;
      gathered = gathered_later i (i + 1) s (omega arith) c.loop-term.invariant.gathered;
      constant = omega arith;
    }

pub add-requires-clause-by : goal.add-requires-clause-by
add-requires-clause-by c =
    let d : FieldTerm = record { field = 0; coefficient = pos 0 } in
    let a = (get_or c.args.terms.now c.loop-term.term-index d).coefficient in
    let h = coefficient_at 0 c.args.terms.now c.loop-term.term-index d c.requires.terms c.loop-term-test.true in
    subst (λ z. unsigned_abs z ≤ 2 ^ 31) (sym (held_128 a h)) (let l : unsigned_abs a < 2 ^ 31 = h in omega arith)

pub add-requires-clause-constant : goal.add-requires-clause-constant
add-requires-clause-constant c =
    let f = fields_few 0 c.args.terms.now (omega arith) c.requires.terms in
    let l = c.loop-term-test.true in
    let k = c.loop-term.invariant.constant in
    omega arith

pub loop-term-preserved : goal.loop-term-preserved
loop-term-preserved c =
    let i = c.loop-term.term-index in
    let d : FieldTerm = record { field = 0; coefficient = pos 0 } in
    let t = get_or c.args.terms.now i d in
    let gs = c.args.forms.now in
    let s = plain_sum c.loop-term.sum in
    let h = coefficient_at 0 c.args.terms.now i d c.requires.terms c.loop-term-test.true in
    let b : unsigned_abs t.coefficient ≤ 2 ^ 31 = (let l : unsigned_abs t.coefficient < 2 ^ 31 = h in omega arith) in
    let here = fields_drop c.args.terms.now i d c.loop-term-test.true in
    let look = (c.in-Some.ensures {u = tt}).lookup in
    let form : c.in-Some.form.now ≡ get_or gs t.field (number_form (pos 0)) = look.1 ∙ get_or-any gs t.field c.in-Some.form.now (number_form (pos 0)) look.3.0 in
    let done = c.in_ok-add.ensures {u = tt} in
    let g = get_or gs t.field (number_form (pos 0)) in
    let added : plain_sum c.add.new.self ≡ add_form t.coefficient g s = done.sum ∙ (λ j. add_form (held_128 t.coefficient h j) (form j) s) in
    let rest = plain_fields (drop (i + 1) c.args.terms.now) in
    let is = subst IsForm form done.form in
    record {
      value = ap (put_fields rest gs) added ∙ sym (ap (λ us. put_fields us gs s) here) ∙ c.loop-term.invariant.value;
      gathered = subst (λ n. IsGathered n (plain_sum c.add.new.self)) (sym (add-one i)) (subst (IsGathered (suc i)) (sym added) (gathered_more i t.coefficient g s b is (subst (λ x. AreInner (remainders_of x)) form done.inner) c.loop-term.invariant.gathered));
      constant = subst (λ z. unsigned_abs z ≤ (i + 1 + 1) * 2 ^ 94) (sym (ap (λ (x : model.Sum). x.constant) added ∙ constant_after t.coefficient g s)) (constant_more (i + 1) c.loop-term.sum.constant t.coefficient g is b c.loop-term.invariant.constant);
    }

pub returns-clause-gathered : goal.returns-clause-gathered
returns-clause-gathered c =
    let f = fields_few 0 c.args.terms.now (omega arith) c.requires.terms in
    let l = c.loop-term.auto.term-index-end in
    gathered_later c.loop-term.term-index 8 (plain_sum c.loop-term.sum) (omega arith) c.loop-term.invariant.gathered

pub returns-clause-constant : goal.returns-clause-constant
returns-clause-constant c =
    let f = fields_few 0 c.args.terms.now (omega arith) c.requires.terms in
    let l = c.loop-term.auto.term-index-end in
    let k = c.loop-term.invariant.constant in
    omega arith
