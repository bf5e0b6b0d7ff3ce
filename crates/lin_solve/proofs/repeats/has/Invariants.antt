use Rattle.std.proofs.Common.{◌≡◌, drop}
use Rattle.std.specs.List.{list_any}
use Rattle.lin_solve.specs.Kept.{is_same}
use Rattle.lin_solve.specs.contracts.compare.ComparePartialEq.TheImpl.{ghosts as compares}
use Rattle.lin_solve.proofs.repeats.has.Given as goal

abbrev pub invariant-loop-other : goal.invariant-loop-other
invariant-loop-other l = list_any (is_same compares.eq l.literal) (drop l.other-index l.literals) ≡ list_any (is_same compares.eq l.literal) l.literals
