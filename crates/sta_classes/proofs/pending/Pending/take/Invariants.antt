use Rattle.std.proofs.Common.{◌≡◌}
use Rattle.std.specs.BinaryHeap.{heap_len}
use Rattle.sta_classes.specs.Pending.{AreKept}
use Rattle.sta_classes.proofs.pending.Pending.take.Given as goal

abbrev pub invariant-order : goal.invariant-order
invariant-order g l = record {
  kept : AreKept l.self;
  sets : l.self.sets ≡ l.initial.self.sets;
  best : l.self.best ≡ l.initial.self.best;
}

abbrev pub decreases-order : goal.decreases-order
decreases-order g l = heap_len l.self.order
