use Rattle.std.proofs.Common.{suc, ◌≡◌, ap, sym, ◌∙◌, subst, arith, rules, drop, to_z, of_z, ◌+◌, ◌*◌, ◌∷◌, ◌≤◌, ◌^◌, unsigned_abs, add-one, MatchResult}
use Rattle.std.specs.Prelude.{pos, FitsSigned}
use Rattle.std.specs.Int.{w128}
use Rattle.std.proofs.lemmas.Int.{to_z-of_z}
use Rattle.std.proofs.lemmas.List.{drop_all}
use Rattle.std.proofs.lemmas.Result.{MatchResult-weaker}
use Rattle.model_form.specs.Form.{Form}
use Rattle.model_form.specs.Sums.{add_parts, add_form, form_of_sum, started, sign}
use Rattle.model_form.specs.Sums as model
use Rattle.model_form.specs.Ranges.{IsOutside}
use Rattle.lin_form.specs.Within.{IsGathered}
use Rattle.lin_form.proofs.Gathering.{gathered_more}
use Rattle.lin_form.specs.Gathered.{plain_sum, plain_parts}
use Rattle.lin_form.specs.Stops.{StopsAt}
use Rattle.lin_form.specs.declared.sum.Signed.{Signed}
use Rattle.lin_form.proofs.Outside.{parts_drop, sign_small, constant_more, none_outside, constant_after}
use Rattle.lin_form.proofs.form.Form.of_sum.Goals as goal

pub add-requires-clause-constant : goal.add-requires-clause-constant
add-requires-clause-constant c =
    let l = c.loop-part-test.true in
    let k = c.loop-part.invariant.constant in
    let many = c.requires in
    omega arith

pub loop-part-preserved : goal.loop-part-preserved
loop-part-preserved c =
    let done = (c.in_ok-add.ensures {u = tt}) in
    let p = c.part-item.result in
    let i = c.loop-part.part-index in
    let fs : FitsSigned w128 c.sign_of.result = search rules in
    let by : to_z w128 (of_z w128 c.sign_of.result) ≡ sign p.minus = to_z-of_z w128 c.sign_of.result fs ∙ c.sign_of.ensures in
    let added : plain_sum c.add.new.self ≡ add_form (sign p.minus) p.form (plain_sum c.loop-part.sum) = done.sum ∙ ap (λ z. add_form z p.form (plain_sum c.loop-part.sum)) by in
    let here = parts_drop c.args.parts.now i p c.loop-part-test.true in
    let same : plain_parts (drop i c.args.parts.now) ≡ record { minus = p.minus; added = p.form } ∷ plain_parts (drop (i + 1) c.args.parts.now) =
    here ∙ ap (λ (x : Signed). record { minus = x.minus; added = x.form } ∷ plain_parts (drop (i + 1) c.args.parts.now)) (sym c.part-item.is) in
    record {
      value = ap (add_parts (plain_parts (drop (i + 1) c.args.parts.now))) added ∙ sym (ap (λ ps. add_parts ps (plain_sum c.loop-part.sum)) same) ∙ c.loop-part.invariant.value;
      gathered = subst (λ n. IsGathered n (plain_sum c.add.new.self)) (sym (add-one i)) (subst (IsGathered (suc i)) (sym added) (gathered_more i (sign p.minus) p.form (plain_sum c.loop-part.sum) (sign_small p.minus) done.form done.inner c.loop-part.invariant.gathered));
      constant = subst (λ z. unsigned_abs z ≤ (i + 1) * 2 ^ 94) (sym (ap (λ (s : model.Sum). s.constant) added ∙ constant_after (sign p.minus) p.form (plain_sum c.loop-part.sum))) (constant_more i c.loop-part.sum.constant (sign p.minus) p.form done.form (sign_small p.minus) c.loop-part.invariant.constant);
    }

pub returns-clause-form : goal.returns-clause-form
returns-clause-form c =
    let past = drop_all c.loop-part.part-index c.args.parts.now c.loop-part-test.false in
    let e : plain_sum c.loop-part.sum ≡ add_parts (plain_parts c.args.parts.now) (started (pos 0)) =
    ap (λ ps. add_parts (plain_parts ps) (plain_sum c.loop-part.sum)) (sym past) ∙ c.loop-part.invariant.value in
    subst (λ s. MatchResult c.finish.result (λ (f : Form). f ≡ form_of_sum s) (λ stop. StopsAt (IsOutside (form_of_sum s)) stop)) e c.finish.ensures.form

pub returns-clause-in_range : goal.returns-clause-in_range
returns-clause-in_range c = MatchResult-weaker c.finish.result c.finish.ensures.in_range (λ f h. none_outside f h) (λ e u. u)
