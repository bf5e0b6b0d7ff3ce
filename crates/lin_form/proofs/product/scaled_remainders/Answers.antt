use Rattle.std.proofs.Common.{◌≡◌, ap, sym, ◌∙◌, subst, get_or, drop, to_z, of_z, ◌+◌}
use Rattle.std.specs.Prelude.{ℤ, ◌*ℤ◌}
use Rattle.std.specs.Int.{w64, w128}
use Rattle.std.proofs.lemmas.Int.{to_z-of_z}
use Rattle.std.proofs.lemmas.List.{drop_all}
use Rattle.std.proofs.lemmas.Result.{err_from_is_err_and}
use Rattle.model_form.specs.Sums.{scaled_remainders}
use Rattle.model_form.specs.Ranges.{IsOfRemainders, IsCoefficient, AreRemainders}
use Rattle.lin_form.specs.Terms.{plain_remainders}
use Rattle.lin_form.specs.declared.form.RemTerm.{RemTerm}
use Rattle.lin_form.specs.declared.stop.FormStop.TheVariants.{Range}
use Rattle.lin_form.proofs.Joined.{joined, joined-none, scaled_remainders_are, remainders_range_push}
use Rattle.lin_form.proofs.Evaluating.{remainder_at}
use Rattle.lin_form.proofs.Kept.{stops_by, scaled_rem_out, scaled_rem_push, held_number, held_range, held_product}
use Rattle.lin_form.proofs.product.scaled_remainders.Goals as goal

pub returns-in_err-coefficient : goal.returns-in_err-coefficient
returns-in_err-coefficient c =
    let p = err_from_is_err_and c.from_residual.result c.from_residual.ensures.1 in
    let k = c.in_err-coefficient.ensures {u = tt} in
    let d = c.term-item.result in
    let a = (get_or c.args.terms.now c.loop-term.term-index d).coefficient in
    let range = (remainder_at c.args.terms.now c.loop-term.term-index d c.requires.terms c.loop-term-test.true).0 in
    let same : d.coefficient ≡ a = ap (λ (x : RemTerm). x.coefficient) c.term-item.is in
    let number = held_product c.args.by d.coefficient c.requires.by (subst IsCoefficient (sym same) range) ∙ ap (λ z. c.args.by *ℤ z) same in
    let back = to_z-of_z w128 c.args.by c.ranges.by in
    let whole = scaled_remainders c.args.by (plain_remainders c.args.terms.now) in
    let is = scaled_rem_out (plain_remainders c.loop-term.made.items) whole c.args.by c.args.terms.now c.loop-term.term-index d c.loop-term-test.true (subst (λ by. joined (plain_remainders c.loop-term.made.items) (scaled_remainders by (plain_remainders (drop c.loop-term.term-index c.args.terms.now))) ≡ scaled_remainders by (plain_remainders c.args.terms.now)) back c.loop-term.invariant.value) in
    rw (p.1, p.2) (stops_by (λ n. IsOfRemainders n whole × (IsCoefficient n → ⊥)) c.in_err-coefficient.field-0.0 (c.args.by *ℤ a) (k.0 ∙ ap Range number) (is, λ h. k.1 (subst IsCoefficient (sym number) h)))

pub loop-term-preserved : goal.loop-term-preserved
loop-term-preserved c =
    let k = c.in_ok-coefficient.ensures {u = tt} in
    let d = c.term-item.result in
    let it = get_or c.args.terms.now c.loop-term.term-index d in
    let range = (remainder_at c.args.terms.now c.loop-term.term-index d c.requires.terms c.loop-term-test.true).0 in
    let same : d.coefficient ≡ it.coefficient = ap (λ (x : RemTerm). x.coefficient) c.term-item.is in
    let number = held_product c.args.by d.coefficient c.requires.by (subst IsCoefficient (sym same) range) ∙ ap (λ z. c.args.by *ℤ z) same in
    let back = to_z-of_z w128 c.args.by c.ranges.by in
    let items = (c.in_ok-push.ensures {u = tt}).items in
    let held = k.0 ∙ number in
    let r : IsCoefficient (c.args.by *ℤ it.coefficient) = subst IsCoefficient number k.1 in
    let t : RemTerm = record { coefficient = to_z w64 (of_z w64 c.in_ok-coefficient.coefficient); inner = c.in_ok-copy.field-0; divisor = d.divisor } in
    let inner : t.inner ≡ it.inner = c.in_ok-copy.ensures {u = tt} ∙ ap (λ (x : RemTerm). x.inner) c.term-item.is in
    let before = subst (λ by. joined (plain_remainders c.loop-term.made.items) (scaled_remainders by (plain_remainders (drop c.loop-term.term-index c.args.terms.now))) ≡ scaled_remainders by (plain_remainders c.args.terms.now)) back c.loop-term.invariant.value in
    record {
      value = subst (λ by. joined (plain_remainders c.push.new.self.items) (scaled_remainders by (plain_remainders (drop (c.loop-term.term-index + 1) c.args.terms.now))) ≡ scaled_remainders by (plain_remainders c.args.terms.now)) (sym back)
          (ap (λ ts. joined (plain_remainders ts) (scaled_remainders c.args.by (plain_remainders (drop (c.loop-term.term-index + 1) c.args.terms.now)))) items
          ∙ scaled_rem_push c.loop-term.made.items t (scaled_remainders c.args.by (plain_remainders c.args.terms.now)) c.args.by c.args.terms.now c.loop-term.term-index d c.loop-term-test.true (held_number (c.args.by *ℤ it.coefficient) c.in_ok-coefficient.coefficient held r) inner (ap (λ (x : RemTerm). x.divisor) c.term-item.is) before);
      range = subst (λ ts. (n : ℤ) → IsOfRemainders n (plain_remainders ts) → IsCoefficient n) (sym items) (remainders_range_push c.loop-term.made.items t c.loop-term.invariant.range (held_range (c.args.by *ℤ it.coefficient) c.in_ok-coefficient.coefficient held r));
    }

pub returns : goal.returns
returns c =
    let back = to_z-of_z w128 c.args.by c.ranges.by in
    let whole = scaled_remainders c.args.by (plain_remainders c.args.terms.now) in
    let before = subst (λ by. joined (plain_remainders c.loop-term.made.items) (scaled_remainders by (plain_remainders (drop c.loop-term.term-index c.args.terms.now))) ≡ scaled_remainders by (plain_remainders c.args.terms.now)) back c.loop-term.invariant.value in
    let past = drop_all c.loop-term.term-index c.args.terms.now c.loop-term-test.false in
    let e : plain_remainders c.loop-term.made.items ≡ whole =
    sym (joined-none (plain_remainders c.loop-term.made.items)) ∙ ap (λ ts. joined (plain_remainders c.loop-term.made.items) (scaled_remainders c.args.by (plain_remainders ts))) (sym past) ∙ before in
    (e, subst AreRemainders (sym e) (scaled_remainders_are c.args.by (plain_remainders c.args.terms.now) c.requires.some c.requires.terms (λ n i. c.loop-term.invariant.range n (subst (IsOfRemainders n) (sym e) i))))
