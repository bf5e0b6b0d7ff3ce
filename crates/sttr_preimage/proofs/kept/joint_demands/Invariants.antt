use Rattle.std.proofs.Common.{map}
use Rattle.sta_core.specs.Machine.{plain_rule}
use Rattle.sttr_preimage.specs.Names.{names_in}
use Rattle.sttr_preimage.specs.Rules.{AreNumbered}
use Rattle.sttr_preimage.specs.Kept.{joint_demands}
use Rattle.sttr_preimage.proofs.kept.joint_demands.Given as goal

abbrev pub invariant-children : goal.invariant-children
invariant-children g l = AreNumbered (names_in l.initial.names.keys) (names_in l.names.keys) l.child (joint_demands (plain_rule l.rule) (plain_rule l.other)) (map (λ d. d.items) l.made.items)
