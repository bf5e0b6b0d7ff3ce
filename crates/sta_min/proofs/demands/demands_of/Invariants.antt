use Rattle.std.proofs.Common.{◌≡◌, take}
use Rattle.sta_classes.specs.Rows.{lists_of}
use Rattle.sta_theory.specs.Built.{keys}
use Rattle.sta_min.specs.Demands.{free_in}
use Rattle.sta_min.proofs.demands.demands_of.Given as goal

abbrev pub invariant-places : goal.invariant-places
invariant-places l = lists_of l.demands.items ≡ keys (free_in l.free) (take l.j l.blocks)
