use Rattle.std.proofs.Common.{arith}
use Rattle.std.proofs.lemmas.Bool.Decides.{nat_tests}
use Rattle.fast_tool.proofs.Numerals.{other_digit, one_digit, other_front, none_by_length}
use Rattle.fast_tool.proofs.words.+is_decimal.Goals as goal

pub returns-then-last-number-clause-no : goal.returns-then-last-number-clause-no
returns-then-last-number-clause-no t c no_digit e = other_digit c.args.number c.in-Some.last.now c.args.digits.now c.in-Some.front.now (omega (arith, c.ranges.number.fits)) (c.in-Some.ensures {u = tt}).cases.0 c.if-last-number.true e

pub returns-then-number-lt10-clause-yes : goal.returns-then-number-lt10-clause-yes
returns-then-number-lt10-clause-yes t c alone =
    one_digit c.args.number c.in-Some.last.now c.args.digits.now c.in-Some.front.now c.if-number-lt10.true (c.in-Some.ensures {u = tt}).cases.0 c.if-last-number.false
    (none_by_length c.in-Some.front.now (grind (arith, nat_tests, c.is_empty.ensures, alone)))

pub returns-else-number-lt10-clause-no : goal.returns-else-number-lt10-clause-no
returns-else-number-lt10-clause-no t c no_front e = other_front c.args.number c.in-Some.last.now c.args.digits.now c.in-Some.front.now c.if-number-lt10.false (omega (arith, c.ranges.number.fits)) (c.in-Some.ensures {u = tt}).cases.0 (c.is_decimal.ensures.no no_front) e
