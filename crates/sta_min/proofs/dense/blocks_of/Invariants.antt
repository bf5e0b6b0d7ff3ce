use Rattle.sta_min.proofs.Refining.{IsDenseSoFar}
use Rattle.sta_min.proofs.dense.blocks_of.Given as goal

abbrev pub invariant-classes : goal.invariant-classes
invariant-classes l = IsDenseSoFar l.numbers l.class l.firsts.items l.dense.items
