use Rattle.std.proofs.Common.{◌≡◌, ◌+◌, ◌-◌, ◌^◌, ◌<◌, true, false, length, ap, sym, ◌∙◌, arith}
use Rattle.std.specs.Prelude.{pos}
use Rattle.std.proofs.lemmas.Bool.{eq-eqb, eqb-true}
use Rattle.model_chain.specs.Literals.{add_at, add_terms, place}
use Rattle.lin_form.specs.Nest.{divisors_of}
use Rattle.lin_solve.specs.Plain.{plain_known, plain_term}
use Rattle.lin_solve.proofs.Numbered.{known_length}
use Rattle.lin_solve.proofs.Filled.{alone_is, last_is, within_up, place_le}
use Rattle.lin_solve.proofs.rows.dividend_row.Goals as goal

pub returns-then-is_empty : goal.returns-then-is_empty
returns-then-is_empty c =
    let R = plain_known c.args.known.now in
    let row = c.in_ok-row.ensures {u = tt} in
    let none = eqb-true (length c.parts.result.1.now) 0 (sym c.is_empty.ensures ∙ c.if-is_empty.true) in
    let is = alone_is c.args.inner.now c.parts.result.0.now c.parts.result.1.now c.parts.ensures.base c.parts.ensures.divisors none in
    (c.add_form.ensures.row ∙ (λ i. add_terms R (pos 1) (is i) (row.0 i)), c.add_form.ensures.small 0 row.1)

pub overflow_add-place_of : goal.overflow_add-place_of
overflow_add-place_of c =
    let low = place_le (plain_term c.in_ok-term.term) (plain_known c.args.known.now) in
    let count = known_length c.args.known.now in
    let at = c.place_of.ensures in
    omega arith

pub returns : goal.returns
returns c =
    let R = plain_known c.args.known.now in
    let row = c.in_ok-row.ensures {u = tt} in
    let term = c.in_ok-term.ensures {u = tt} in
    let i = length c.parts.result.1.now - 1 in
    let many = ap length c.parts.ensures.divisors in
    let some : length c.parts.result.1.now ≡ 0 → ⊥ = λ z. let no : true ≡ false = sym (eq-eqb (length c.parts.result.1.now) 0 z) ∙ sym c.is_empty.ensures ∙ c.if-is_empty.false in cc in
    let low : 0 < length c.parts.result.1.now = omega (arith, some) in
    let e : i + 1 ≡ length (divisors_of c.args.inner.now) = omega arith in
    (c.add_at.ensures.row ∙ (λ j. add_at (8 + c.place_of.ensures j) (pos 1) (row.0 j)) ∙ last_is R c.args.inner.now i (plain_term c.in_ok-term.term) _ e term.0, within_up (0 + 2 ^ 31) (2 ^ 100) c.add_at.new.row.items (omega arith) (c.add_at.ensures.small 0 row.1))
