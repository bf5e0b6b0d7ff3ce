use Rattle.std.proofs.Common.{map}
use Rattle.sta_core.specs.Machine.{plain_rule}
use Rattle.sttr_preimage.specs.Names.{names_in}
use Rattle.sttr_preimage.specs.Rules.{AreNumbered, way_demands}
use Rattle.sttr_preimage.proofs.rules.way_demands.Given as goal

abbrev pub invariant-children : goal.invariant-children
invariant-children g l = AreNumbered (names_in l.initial.names.keys) (names_in l.names.keys) l.child (way_demands (plain_rule l.rule) l.asked) (map (λ d. d.items) l.made.items)
