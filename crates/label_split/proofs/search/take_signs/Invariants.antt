use Rattle.label_split.specs.Known.{Forces}
use Rattle.label_split.specs.Numbers.{HaveSigns}
use Rattle.label_split.proofs.search.take_signs.Given as goal

abbrev pub invariant-loop-number : goal.invariant-loop-number
invariant-loop-number l = Forces (HaveSigns l.asked.formulas.now l.asked.signs.now) l.fn.known.signs.items l.known.signs.items
