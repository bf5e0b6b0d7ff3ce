use Rattle.std.proofs.Common.{List, ◌≡◌, ◌≢◌, ap, sym, ◌∙◌, subst, arith, rules, get_or, drop, length, to_z, of_z, append-nil, ◌++◌, ◌+◌, [], ℕ, refl}
use Rattle.std.specs.Prelude.{pos, FitsSigned, ℤ}
use Rattle.std.specs.Int.{w64, w128}
use Rattle.std.proofs.lemmas.Int.{to_z-of_z}
use Rattle.std.proofs.lemmas.List.{drop_all}
use Rattle.std.proofs.lemmas.Result.{err_from_is_err_and}
use Rattle.model_form.specs.Sums.{fields_from}
use Rattle.model_form.specs.Ranges.{IsOfFields, IsCoefficient, AreFields}
use Rattle.lin_form.specs.Terms.{plain_fields}
use Rattle.lin_form.specs.declared.form.FieldTerm.{FieldTerm}
use Rattle.lin_form.specs.declared.stop.FormStop.TheVariants.{Range}
use Rattle.lin_form.proofs.Joined.{fields_from_are, fields_range_push}
use Rattle.lin_form.proofs.Kept.{stops_by, kept_out, kept_skip, kept_push, held_number, held_range}
use Rattle.lin_form.proofs.sum.kept_fields.Goals as goal

pub returns-in_err-coefficient : goal.returns-in_err-coefficient
returns-in_err-coefficient c =
    let p = err_from_is_err_and c.from_residual.result c.from_residual.ensures.1 in
    let k = c.in_err-coefficient.ensures {u = tt} in
    let total = get_or c.args.totals.now c.loop-i.i (pos 0) in
    let f : FitsSigned w128 total = search rules in
    let number = to_z-of_z w128 total f in
    let n : total ≢ pos 0 = λ e. c.if-total-eq0.false (ap (of_z w128) e) in
    let is = kept_out (plain_fields c.loop-i.kept.items) (fields_from 0 c.args.totals.now) c.args.totals.now c.loop-i.i c.loop-i-test.true n c.loop-i.invariant.value in
    rw (p.1, p.2) (stops_by (λ n. IsOfFields n (fields_from 0 c.args.totals.now) × (IsCoefficient n → ⊥)) c.in_err-coefficient.field-0.0 total (k.0 ∙ ap Range number) (is, λ h. k.1 (subst IsCoefficient (sym number) h)))

pub loop-i-preserved-then-total-eq0 : goal.loop-i-preserved-then-total-eq0
loop-i-preserved-then-total-eq0 c =
    let total = get_or c.args.totals.now c.loop-i.i (pos 0) in
    let f : FitsSigned w128 total = search rules in
    let z : total ≡ pos 0 = sym (to_z-of_z w128 total f) ∙ ap (to_z w128) c.if-total-eq0.true in
    record {
      value = kept_skip (plain_fields c.loop-i.kept.items) (fields_from 0 c.args.totals.now) c.args.totals.now c.loop-i.i c.loop-i-test.true z c.loop-i.invariant.value;
      range = c.loop-i.invariant.range;
    }

pub loop-i-preserved : goal.loop-i-preserved
loop-i-preserved c =
    let total = get_or c.args.totals.now c.loop-i.i (pos 0) in
    let f : FitsSigned w128 total = search rules in
    let number = to_z-of_z w128 total f in
    let n : total ≢ pos 0 = λ e. c.if-total-eq0.false (ap (of_z w128) e) in
    let k = c.in_ok-coefficient.ensures {u = tt} in
    let items = (c.in_ok-push.ensures {u = tt}).items in
    let held = k.0 ∙ number in
    let r : IsCoefficient total = subst IsCoefficient number k.1 in
    let t : FieldTerm = record { field = c.loop-i.i; coefficient = to_z w64 (of_z w64 c.in_ok-coefficient.field-0) } in
    record {
      value = ap (λ ts. plain_fields ts ++ fields_from (c.loop-i.i + 1) (drop (c.loop-i.i + 1) c.args.totals.now)) items
          ∙ kept_push c.loop-i.kept.items t (fields_from 0 c.args.totals.now) c.args.totals.now c.loop-i.i c.loop-i-test.true refl (held_number total c.in_ok-coefficient.field-0 held r) n c.loop-i.invariant.value;
      range = subst (λ ts. (n : ℤ) → IsOfFields n (plain_fields ts) → IsCoefficient n) (sym items) (fields_range_push c.loop-i.kept.items t c.loop-i.invariant.range (held_range total c.in_ok-coefficient.field-0 held r));
    }

pub returns : goal.returns
returns c =
    let l : c.loop-i.i ≡ length c.args.totals.now = omega arith in
    let e : plain_fields c.loop-i.kept.items ≡ fields_from 0 c.args.totals.now =
    sym (append-nil (plain_fields c.loop-i.kept.items)) ∙ ap (λ us. plain_fields c.loop-i.kept.items ++ us) (sym (past c.loop-i.i c.args.totals.now l)) ∙ c.loop-i.invariant.value in
    (e, subst (AreFields 0) (sym e) (fields_from_are 0 0 c.args.totals.now (omega arith) (omega arith) (λ n i. c.loop-i.invariant.range n (subst (IsOfFields n) (sym e) i))))
  where
    past : (i : ℕ) (cs : List ℤ) → i ≡ length cs → fields_from i (drop i cs) ≡ []
    past i cs l = ap (λ ds. fields_from i ds) (drop_all i cs (omega arith))
