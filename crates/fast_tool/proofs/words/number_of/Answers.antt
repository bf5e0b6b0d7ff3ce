use Rattle.std.proofs.Common.{◌≡◌, ◌∙◌, Ok, refl, sym, ap, arith}
use Rattle.std.specs.Prelude.{decimal}
use Rattle.fast_tool.proofs.Numerals.{parsed}
use Rattle.fast_tool.proofs.words.number_of.Goals as goal
use Rattle.fast_tool.proofs.words.number_of.Goals.{then-number-lt1-via-then-number-lt1, then-number-lt1-via-else-number-lt1+then-number-most, then-number-lt1-via-else-number-lt1+else-number-most+then-not-is_decimal}

pub returns-in_default-clause-none : goal.returns-in_default-clause-none
returns-in_default-clause-none c n is = c.in_default.not-Ok n (parsed c.args.word.now c.parse.result c.args.most n (omega (arith, c.ranges.most.fits)) is c.parse.ensures.value.0)

pub returns-then-number-lt1-clause-none : goal.returns-then-number-lt1-clause-none
returns-then-number-lt1-clause-none c n is =
    let ok : Ok c.in-Ok.number ≡ Ok n = sym c.in-Ok.is ∙ parsed c.args.word.now c.parse.result c.args.most n (omega (arith, c.ranges.most.fits)) is c.parse.ensures.value.0 in
    let same : c.in-Ok.number ≡ n = cc in
    elim c.then-number-lt1.branch [
      | then-number-lt1-via-then-number-lt1 w ↦ omega (arith, same, is.0, w.if-number-lt1.true)
      | then-number-lt1-via-else-number-lt1+then-number-most w ↦ omega (arith, same, is.1, w.if-number-most.true)
      | then-number-lt1-via-else-number-lt1+else-number-most+then-not-is_decimal w ↦ w.if-not-is_decimal.ensures.no refl (w.as_bytes.ensures.value ∙ (is.2 ∙ ap decimal (sym same)))
    ]
