use Rattle.std.proofs.Common.{map}
use Rattle.label_core.specs.Formula.{plain_formula}
use Rattle.sta_min.proofs.Guarding.{Guards}
use Rattle.sta_min.proofs.targets.guard_of.Given as goal

abbrev pub invariant-classes : goal.invariant-classes
invariant-classes g l = Guards g.T.Atom.PartialEq.eq g.T.Theory.atom_holds l.table l.constructor l.children l.classes l.class-index (map plain_formula l.guards.items)
