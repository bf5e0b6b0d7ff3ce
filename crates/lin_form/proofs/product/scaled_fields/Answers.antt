use Rattle.std.proofs.Common.{◌≡◌, ap, sym, ◌∙◌, subst, get_or, drop, to_z, of_z, append-nil, ◌++◌, ◌+◌, refl}
use Rattle.std.specs.Prelude.{pos, ℤ, ◌*ℤ◌}
use Rattle.std.specs.Int.{w64, w128}
use Rattle.std.proofs.lemmas.Int.{to_z-of_z}
use Rattle.std.proofs.lemmas.List.{drop_all}
use Rattle.std.proofs.lemmas.Result.{err_from_is_err_and}
use Rattle.model_form.specs.Sums.{scaled_fields}
use Rattle.model_form.specs.Ranges.{IsOfFields, IsCoefficient, AreFields}
use Rattle.lin_form.specs.Terms.{plain_fields}
use Rattle.lin_form.specs.declared.form.FieldTerm.{FieldTerm}
use Rattle.lin_form.specs.declared.stop.FormStop.TheVariants.{Range}
use Rattle.lin_form.proofs.Joined.{scaled_fields_are, fields_range_push}
use Rattle.lin_form.proofs.Evaluating.{coefficient_at}
use Rattle.lin_form.proofs.Kept.{stops_by, scaled_out, scaled_push, held_number, held_range, held_product}
use Rattle.lin_form.proofs.product.scaled_fields.Goals as goal

pub returns-in_err-coefficient : goal.returns-in_err-coefficient
returns-in_err-coefficient c =
    let p = err_from_is_err_and c.from_residual.result c.from_residual.ensures.1 in
    let k = c.in_err-coefficient.ensures {u = tt} in
    let d : FieldTerm = record { field = 0; coefficient = pos 0 } in
    let a = (get_or c.args.terms.now c.loop-term.term-index d).coefficient in
    let number = held_product c.args.by a c.requires.by (coefficient_at 0 c.args.terms.now c.loop-term.term-index d c.requires.terms c.loop-term-test.true) in
    let back = to_z-of_z w128 c.args.by c.ranges.by in
    let whole = scaled_fields c.args.by (plain_fields c.args.terms.now) in
    let is = scaled_out (plain_fields c.loop-term.made.items) whole c.args.by c.args.terms.now c.loop-term.term-index d c.loop-term-test.true (subst (λ by. plain_fields c.loop-term.made.items ++ scaled_fields by (plain_fields (drop c.loop-term.term-index c.args.terms.now)) ≡ scaled_fields by (plain_fields c.args.terms.now)) back c.loop-term.invariant.value) in
    rw (p.1, p.2) (stops_by (λ n. IsOfFields n whole × (IsCoefficient n → ⊥)) c.in_err-coefficient.field-0.0 (c.args.by *ℤ a) (k.0 ∙ ap Range number) (is, λ h. k.1 (subst IsCoefficient (sym number) h)))

pub loop-term-preserved : goal.loop-term-preserved
loop-term-preserved c =
    let k = c.in_ok-coefficient.ensures {u = tt} in
    let d : FieldTerm = record { field = 0; coefficient = pos 0 } in
    let it = get_or c.args.terms.now c.loop-term.term-index d in
    let number = held_product c.args.by it.coefficient c.requires.by (coefficient_at 0 c.args.terms.now c.loop-term.term-index d c.requires.terms c.loop-term-test.true) in
    let back = to_z-of_z w128 c.args.by c.ranges.by in
    let items = (c.in_ok-push.ensures {u = tt}).items in
    let held = k.0 ∙ number in
    let r : IsCoefficient (c.args.by *ℤ it.coefficient) = subst IsCoefficient number k.1 in
    let t : FieldTerm = record { field = it.field; coefficient = to_z w64 (of_z w64 c.in_ok-coefficient.field-0) } in
    let before = subst (λ by. plain_fields c.loop-term.made.items ++ scaled_fields by (plain_fields (drop c.loop-term.term-index c.args.terms.now)) ≡ scaled_fields by (plain_fields c.args.terms.now)) back c.loop-term.invariant.value in
    record {
      value = subst (λ by. plain_fields c.push.new.self.items ++ scaled_fields by (plain_fields (drop (c.loop-term.term-index + 1) c.args.terms.now)) ≡ scaled_fields by (plain_fields c.args.terms.now)) (sym back)
          (ap (λ ts. plain_fields ts ++ scaled_fields c.args.by (plain_fields (drop (c.loop-term.term-index + 1) c.args.terms.now))) items
          ∙ scaled_push c.loop-term.made.items t (scaled_fields c.args.by (plain_fields c.args.terms.now)) c.args.by c.args.terms.now c.loop-term.term-index d c.loop-term-test.true refl (held_number (c.args.by *ℤ it.coefficient) c.in_ok-coefficient.field-0 held r) before);
      range = subst (λ ts. (n : ℤ) → IsOfFields n (plain_fields ts) → IsCoefficient n) (sym items) (fields_range_push c.loop-term.made.items t c.loop-term.invariant.range (held_range (c.args.by *ℤ it.coefficient) c.in_ok-coefficient.field-0 held r));
    }

pub returns : goal.returns
returns c =
    let back = to_z-of_z w128 c.args.by c.ranges.by in
    let whole = scaled_fields c.args.by (plain_fields c.args.terms.now) in
    let before = subst (λ by. plain_fields c.loop-term.made.items ++ scaled_fields by (plain_fields (drop c.loop-term.term-index c.args.terms.now)) ≡ scaled_fields by (plain_fields c.args.terms.now)) back c.loop-term.invariant.value in
    let past = drop_all c.loop-term.term-index c.args.terms.now c.loop-term-test.false in
    let e : plain_fields c.loop-term.made.items ≡ whole =
    sym (append-nil (plain_fields c.loop-term.made.items)) ∙ ap (λ ts. plain_fields c.loop-term.made.items ++ scaled_fields c.args.by (plain_fields ts)) (sym past) ∙ before in
    (e, subst (AreFields 0) (sym e) (scaled_fields_are c.args.by 0 (plain_fields c.args.terms.now) c.requires.some c.requires.terms (λ n i. c.loop-term.invariant.range n (subst (IsOfFields n) (sym e) i))))
