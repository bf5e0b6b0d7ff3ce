use Rattle.std.proofs.Common.{map, take}
use Rattle.sta_core.specs.Machine.{plain_rule}
use Rattle.sta_min.specs.Parents.{plain_parents}
use Rattle.sta_min.specs.Written.{AreRulesFor}
use Rattle.sta_min.proofs.written.rules_for.Given as goal

abbrev pub invariant-parents : goal.invariant-parents
invariant-parents g l = AreRulesFor g.T.Atom.PartialEq.eq g.T.Theory.atom_holds l.table l.dense l.block (take l.i (map plain_parents l.all)) (map plain_rule l.rules.items)
