use Rattle.std.proofs.Common.{take, List, Bool}
use Rattle.label_split.specs.Known.{Follows}
use Rattle.label_split.specs.Numbers.{HaveSigns}
use Rattle.label_split.proofs.search.unsettled.Given as goal

abbrev pub invariant-loop-i : goal.invariant-loop-i
invariant-loop-i l = (truths : List Bool) → Follows l.known.signs.items truths → HaveSigns (take l.i l.asked.formulas.now) (take l.i l.asked.signs.now) truths
