use Rattle.std.proofs.Common.{ℕ, ◌<◌}
use Rattle.model_sta.specs.Least.{rows_of}
use Rattle.sta_ops.specs.Numbers.{AreOpposite}
use Rattle.sta_ops.proofs.numbers.find_opposite.Given as goal

abbrev pub invariant-others : goal.invariant-others
invariant-others g l = (t : ℕ) → t < l.other → ¬ (AreOpposite (rows_of l.table.found) l.state t)
