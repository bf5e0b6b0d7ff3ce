use Rattle.std.proofs.Common.{[], take, get_or}
use Rattle.sta_classes.specs.Rows.{lists_of}
use Rattle.sta_min.specs.Targets.{AreTargets}
use Rattle.sta_min.proofs.targets.targets_of.Given as goal

abbrev pub invariant-values : goal.invariant-values
invariant-values g l = AreTargets g.T.Theory.label_of g.T.Theory.atom_holds l.steps.table.now l.constructor l.children (take l.value-index (get_or (lists_of l.steps.values.items) l.constructor [])) l.targets.items
