use Rattle.std.proofs.Common.{length}
use Rattle.std.specs.Str.{IsUtf8, chars}
use Rattle.std.specs.Str.Iter.{chars_rest}
use Rattle.label_reader.proofs.Digits.{IsCounting}
use Rattle.label_reader.proofs.constants.number_of.Given as goal

abbrev pub invariant-digits : goal.invariant-digits
invariant-digits l = IsUtf8 (chars_rest l.rest) × IsCounting (chars l.fn.text) (chars (chars_rest l.rest)) l.value l.count

abbrev pub decreases-digits : goal.decreases-digits
decreases-digits l = length (chars (chars_rest l.rest))
