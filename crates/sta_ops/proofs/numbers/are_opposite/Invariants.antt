use Rattle.std.proofs.Common.{ℕ, [], ◌≡◌, ◌<◌, get_or, not}
use Rattle.model_sta.specs.Sets.{has}
use Rattle.model_sta.specs.Least.{rows_of}
use Rattle.sta_ops.proofs.numbers.are_opposite.Given as goal

abbrev pub invariant-classes : goal.invariant-classes
invariant-classes g l = (k : ℕ) → k < l.class → has (get_or (rows_of l.table.found) k []) l.other ≡ not (has (get_or (rows_of l.table.found) k []) l.state)
