use Rattle.std.proofs.Common.{take}
use Rattle.label_core.specs.Atoms.{EachHasEqual}
use Rattle.lin_solve.specs.contracts.compare.ComparePartialEq.TheImpl.{ghosts as compares}
use Rattle.lin_solve.specs.Kept.{is_same}
use Rattle.lin_solve.proofs.memo.Refuted.is_among.Given as goal

abbrev pub invariant-loop-i : goal.invariant-loop-i
invariant-loop-i l = EachHasEqual (is_same compares.eq) (take l.i l.self.literals.items) l.others.literals.now
