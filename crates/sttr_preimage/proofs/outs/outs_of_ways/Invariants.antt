use Rattle.std.proofs.Common.{map, take}
use Rattle.sta_core.specs.Machine.{plain_rule}
use Rattle.sttr_core.specs.Machine.{plain_out}
use Rattle.sttr_preimage.specs.Names.{names_in}
use Rattle.sttr_preimage.specs.Called.{called_in, AreOutMade}
use Rattle.sttr_preimage.proofs.outs.outs_of_ways.Given as goal

abbrev pub invariant-ways : goal.invariant-ways
invariant-ways g l = AreOutMade g.T.Labels.make (g.T.Theory.meaning l.theory).has g.T.Map.PartialEq.eq g.T.Theory.atom_holds (names_in l.fn.names.keys) (names_in l.names.keys) (called_in l.fn.called.keys) (called_in l.called.keys) (plain_rule l.rule) (take l.way-index l.ways) (map plain_out l.made.items)
