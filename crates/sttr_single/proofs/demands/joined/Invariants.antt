use Rattle.std.proofs.Common.{map}
use Rattle.sta_core.specs.Machine.{plain_rule}
use Rattle.sttr_single.specs.Joints.{AreJoined}
use Rattle.sttr_single.proofs.demands.joined.Given as goal

abbrev pub invariant-children : goal.invariant-children
invariant-children g l = AreJoined (plain_rule l.first) (plain_rule l.second) l.child (map (λ d. d.items) l.made.items)
