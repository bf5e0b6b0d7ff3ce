use Rattle.std.proofs.Common.{arith, ◌<◌, ◌^◌, ◌*◌, ◌+◌}
use Rattle.std.specs.Char.{digit_value}
use Rattle.std.proofs.lemmas.Str.{IsUtf8-past_char}
use Rattle.model_program.specs.Characters.{is_digit}
use Rattle.fast_lex.proofs.AmountLemmas.{amounting_starts, amounting_more, amounting_step, amounting_below, digit_read, digit_below}
use Rattle.fast_lex.proofs.RunLemmas.{char_shorter}
use Rattle.fast_lex.proofs.values.number_value.Goals as goal

pub loop-c-init : goal.loop-c-init
loop-c-init c = (c.utf8.digits, amounting_starts is_digit 10 38 _ (omega arith) c.requires.all c.requires.few)

pub overflow_mul-value : goal.overflow_mul-value
overflow_mul-value c = let i = c.loop-c.invariant.1 in
    let e : c.loop-c.value * 10 + digit_value c.in-Some.c < 10 ^ 38 = amounting_below is_digit 10 (10 ^ 38) _ _ _ (omega arith) (amounting_more is_digit 10 (10 ^ 38) _ _ _ _ _ digit_below i c.in-Some.ensures.chars) in omega arith

pub overflow_add-value : goal.overflow_add-value
overflow_add-value c = let i = c.loop-c.invariant.1 in
    let d = (digit_read is_digit 10 _ _ _ _ _ digit_below i.all c.in-Some.ensures.chars c.to_digit.ensures.value c.unwrap_or.ensures).0 in
    let e : c.loop-c.value * 10 + c.unwrap_or.result < 10 ^ 38 = amounting_below is_digit 10 (10 ^ 38) _ _ _ (omega arith) (amounting_step is_digit 10 (10 ^ 38) _ _ _ _ _ _ digit_below i c.in-Some.ensures.chars d) in omega arith

pub loop-c-smaller : goal.loop-c-smaller
loop-c-smaller c = char_shorter _ _ _ c.in-Some.ensures.bytes

pub loop-c-preserved : goal.loop-c-preserved
loop-c-preserved c = let e = c.in-Some.ensures in let i = c.loop-c.invariant in (
  IsUtf8-past_char _ _ _ i.0 e.bytes,
  amounting_step is_digit 10 _ _ _ _ _ _ _ digit_below i.1 e.chars (digit_read is_digit 10 _ _ _ _ _ digit_below i.1.all e.chars c.to_digit.ensures.value c.unwrap_or.ensures).0,
)
