use Rattle.std.proofs.Common.{◌∙◌, sym, ap, get_or, false}
use Rattle.label_split.specs.Known.{settled}
use Rattle.label_split.proofs.Truths.{settled_holds, signs_further, same_bools}
use Rattle.std.proofs.Common.{arith}
use Rattle.label_split.proofs.search.unsettled.Goals as goal

pub loop-i-preserved : goal.loop-i-preserved
loop-i-preserved c = λ truths follows.
    signs_further truths c.args.asked.now.formulas.now c.args.asked.now.signs.now c.loop-i.i c.index-asked-i.result c.loop-i-test.true c.requires.asked.lengths c.index-asked-i.is
    (settled_holds c.args.known.now.signs.items truths c.index-asked-i.result c.in-Some.holds (ap (settled c.args.known.now.signs.items) c.index-asked-i.is ∙ sym c.settled.ensures ∙ c.in-Some.is) follows ∙ same_bools c.in-Some.holds (get_or c.args.asked.now.signs.now c.loop-i.i false) c.if-holds-asked.true)
    (c.loop-i.invariant truths follows)

pub offset_bounds-asked-i : goal.offset_bounds-asked-i
offset_bounds-asked-i c = omega arith

pub bounds-asked-i : goal.bounds-asked-i
bounds-asked-i c = c.loop-i-test.true

pub bounds-asked-i-in-Some-1 : goal.bounds-asked-i-in-Some-1
bounds-asked-i-in-Some-1 c = omega (arith, c.loop-i-test.true, c.requires.asked.lengths)
