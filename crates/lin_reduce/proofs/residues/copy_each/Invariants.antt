use Rattle.std.proofs.Common.{◌≡◌, take}
use Rattle.lin_reduce.proofs.residues.copy_each.Given as goal

abbrev pub invariant-loop-condition : goal.invariant-loop-condition
invariant-loop-condition l = l.out.items ≡ take l.condition-index l.system
