use Rattle.model_sta.specs.Least.{rows_of}
use Rattle.sta_ops.specs.Numbers.{AreNumbered}
use Rattle.sta_ops.proofs.numbers.number.Given as goal

abbrev pub invariant-states : goal.invariant-states
invariant-states g l = AreNumbered (rows_of l.table.found) l.states l.state l.numbers.items l.fresh.items
