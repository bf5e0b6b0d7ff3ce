use Rattle.std.proofs.Common.{length}
use Rattle.sta_classes.specs.Rows.{lists_of}
use Rattle.sta_theory.specs.Rounds.{room}
use Rattle.sta_min.specs.Firsts.{AreNumbers}
use Rattle.sta_min.specs.Rounds.{AreAfter}
use Rattle.sta_min.proofs.rounds.refined.Given as goal

abbrev pub invariant-rounds : goal.invariant-rounds
invariant-rounds l = record {
  numbers : AreNumbers (length l.nodes) l.blocks.items;
  after : AreAfter (lists_of l.nodes) l.initial.blocks.items l.blocks.items;
}

abbrev pub decreases-rounds : goal.decreases-rounds
decreases-rounds l = room (length l.nodes) l.blocks.items
