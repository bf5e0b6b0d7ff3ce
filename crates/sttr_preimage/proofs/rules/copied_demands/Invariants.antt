use Rattle.std.proofs.Common.{map}
use Rattle.sta_core.specs.Machine.{plain_rule}
use Rattle.sttr_preimage.specs.Names.{names_in}
use Rattle.sttr_preimage.specs.Rules.{AreNumbered, demands_of}
use Rattle.sttr_preimage.proofs.rules.copied_demands.Given as goal

abbrev pub invariant-demands : goal.invariant-demands
invariant-demands g l = AreNumbered (names_in l.initial.names.keys) (names_in l.names.keys) l.states-index (demands_of l.side (plain_rule l.rule)) (map (λ d. d.items) l.made.items)
