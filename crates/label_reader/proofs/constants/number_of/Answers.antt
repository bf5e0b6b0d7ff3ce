use Rattle.std.proofs.Common.{arith, ap, subst, ℕ, ◌∙◌, pos, ◌<◌, ◌^◌}
use Rattle.std.proofs.Math.Facts.{to_z_pos}
use mir.Syntax.{w128}
use Rattle.label_reader.proofs.Digits.{char_taken, chars_ended, left_smaller, counting_room, counting_small, counting_done, counting_more, counting_wrong, counting_long, counting_none}
use Rattle.label_reader.proofs.constants.number_of.Goals as goal

pub overflow_mul-value : goal.overflow_mul-value
overflow_mul-value c = let room = counting_room _ _ _ _ c.digits.invariant.1 c.if-count-eq38.false in omega (arith, room)

pub overflow_add-value : goal.overflow_add-value
overflow_add-value c = let room = counting_room _ _ _ _ c.digits.invariant.1 c.if-count-eq38.false in let h = c.from.ensures in let g = c.in_ok-digit.ensures.value in omega (arith, room, h, g.0, g.1)

pub overflow_cast-result : goal.overflow_cast-result
overflow_cast-result c = let small = counting_small _ _ _ _ c.digits.invariant.1 in omega (arith, small)

pub returns-in_err-digit : goal.returns-in_err-digit
returns-in_err-digit c =
    let taken = char_taken _ _ _ c.digits.invariant.0 c.in-Some.ensures.steps.0 in
    rw c.from_residual.ensures (counting_wrong _ _ _ _ _ _ c.digits.invariant.1 taken.1 (c.in_err-digit.ensures {u = tt}).value)

pub digits-smaller : goal.digits-smaller
digits-smaller c = left_smaller _ _ _ (char_taken _ _ _ c.digits.invariant.0 c.in-Some.ensures.steps.0).1

pub digits-preserved : goal.digits-preserved
digits-preserved c =
    let taken = char_taken _ _ _ c.digits.invariant.0 c.in-Some.ensures.steps.0 in
    (taken.0, counting_more _ _ _ _ _ _ _ c.digits.invariant.1 taken.1 c.in_ok-digit.ensures.value.0 (c.from.ensures ∙ c.in_ok-digit.ensures.value.1) c.if-count-eq38.false)

pub returns-then-count-eq38 : goal.returns-then-count-eq38
returns-then-count-eq38 c = counting_long _ _ _ _ _ _ c.digits.invariant.1 (char_taken _ _ _ c.digits.invariant.0 c.in-Some.ensures.steps.0).1 c.if-count-eq38.true

pub returns-then-count-eq0 : goal.returns-then-count-eq0
returns-then-count-eq0 c = counting_none _ _ _ _ c.digits.invariant.1 (chars_ended _ c.in_default.ensures.steps.0.0) c.if-count-eq0.true

pub returns : goal.returns
returns c =
    let small = counting_small _ _ _ _ c.digits.invariant.1 in
    let done = counting_done _ _ _ _ c.digits.invariant.1 (chars_ended _ c.in_default.ensures.steps.0.0) c.if-count-eq0.false in
    (done.0, to_z_pos w128 (omega (arith, small)) ∙ ap pos done.1, subst (λ (n : ℕ). n < 10 ^ 38) done.1 small)
