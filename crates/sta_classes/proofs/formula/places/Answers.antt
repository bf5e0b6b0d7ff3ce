use Rattle.std.proofs.Common.{◌++◌, ◌∷◌, [], get_or, ap, sym, ◌∙◌, take_all}
use Rattle.std.proofs.lemmas.List.{take_more}
use Rattle.sta_classes.proofs.formula.places.Goals as goal

pub loop-number-preserved : goal.loop-number-preserved
loop-number-preserved c =
    c.in_ok-push.ensures.items ∙ ap (λ l. l ++ get_or c.args.numbers.now c.loop-number.number-index 0 ∷ []) c.loop-number.invariant ∙ sym (take_more c.args.numbers.now c.loop-number.number-index 0 c.loop-number-test.true)

pub returns : goal.returns
returns c = c.loop-number.invariant ∙ take_all c.loop-number.number-index c.args.numbers.now c.loop-number-test.false
