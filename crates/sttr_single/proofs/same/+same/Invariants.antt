use Rattle.std.proofs.Common.{◌≡◌, drop}
use Rattle.sttr_single.proofs.Alike.{same_lists}
use Rattle.sttr_single.proofs.same.+same.Given as goal

abbrev pub invariant-are_same-loop-i : goal.invariant-are_same-loop-i
invariant-are_same-loop-i g l = same_lists g.M.PartialEq.eq l.parts l.others ≡ same_lists g.M.PartialEq.eq (drop l.i l.parts) (drop l.i l.others)
