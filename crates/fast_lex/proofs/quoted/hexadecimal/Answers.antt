use Rattle.std.proofs.Common.{arith, ◌<◌, ◌^◌}
use Rattle.std.proofs.lemmas.Str.{IsUtf8-past_char}
use Rattle.model_program.specs.Characters.{is_hexadecimal}
use Rattle.fast_lex.proofs.AmountLemmas.{amounting_starts, amounting_step, amounting_below, digit_read, hexadecimal_below}
use Rattle.fast_lex.proofs.RunLemmas.{char_shorter}
use Rattle.fast_lex.proofs.quoted.hexadecimal.Goals as goal

pub loop-c-init : goal.loop-c-init
loop-c-init c = (c.utf8.digits, amounting_starts is_hexadecimal 16 6 _ (omega arith) c.requires.all c.requires.few)

pub overflow_mul-value : goal.overflow_mul-value
overflow_mul-value c = let e : c.loop-c.value < 16 ^ 6 = amounting_below _ _ _ _ _ _ (omega arith) c.loop-c.invariant.1 in omega arith

pub overflow_add-value : goal.overflow_add-value
overflow_add-value c =
    let e : c.loop-c.value < 16 ^ 6 = amounting_below _ _ _ _ _ _ (omega arith) c.loop-c.invariant.1 in
    let d = (digit_read is_hexadecimal 16 _ _ _ _ _ hexadecimal_below c.loop-c.invariant.1.all c.in-Some.ensures.chars c.to_digit.ensures.value c.unwrap_or.ensures).1 in omega arith

pub loop-c-smaller : goal.loop-c-smaller
loop-c-smaller c = char_shorter _ _ _ c.in-Some.ensures.bytes

pub loop-c-preserved : goal.loop-c-preserved
loop-c-preserved c = let e = c.in-Some.ensures in let i = c.loop-c.invariant in (
  IsUtf8-past_char _ _ _ i.0 e.bytes,
  amounting_step is_hexadecimal 16 _ _ _ _ _ _ _ hexadecimal_below i.1 e.chars (digit_read is_hexadecimal 16 _ _ _ _ _ hexadecimal_below i.1.all e.chars c.to_digit.ensures.value c.unwrap_or.ensures).0,
)
