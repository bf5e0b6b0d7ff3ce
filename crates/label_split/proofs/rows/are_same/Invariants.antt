use Rattle.std.proofs.Common.{◌≡◌, take}
use Rattle.label_split.proofs.rows.are_same.Given as goal

abbrev pub invariant-loop-i : goal.invariant-loop-i
invariant-loop-i l = take l.i l.signs ≡ take l.i l.others
