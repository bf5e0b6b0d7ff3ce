use Rattle.std.proofs.Common.{map, take}
use Rattle.sta_core.specs.Machine.{plain_rule}
use Rattle.sttr_preimage.specs.Names.{names_in}
use Rattle.sttr_preimage.specs.Rules.{AreWayMade}
use Rattle.sttr_preimage.proofs.rules.way_rules.Given as goal

abbrev pub invariant-ways : goal.invariant-ways
invariant-ways g l = AreWayMade g.T.Theory.atom_holds (g.T.Theory.meaning l.theory).has (names_in l.initial.names.keys) (names_in l.names.keys) (plain_rule l.rule) (take l.way-index l.ways) (map plain_rule l.made.items)
