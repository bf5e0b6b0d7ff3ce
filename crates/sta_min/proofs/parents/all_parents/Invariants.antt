use Rattle.std.proofs.Common.{map}
use Rattle.sta_classes.specs.Rows.{lists_of}
use Rattle.sta_min.specs.Heads.{plain_head}
use Rattle.sta_min.specs.Parents.{plain_parents, AreAllParents}
use Rattle.sta_min.proofs.parents.all_parents.Given as goal

abbrev pub invariant-heads : goal.invariant-heads
invariant-heads g l = AreAllParents g.T.Theory.label_of g.T.Theory.atom_holds l.steps.table.now (lists_of l.steps.values.items) l.firsts (map plain_head l.heads) l.i (map plain_parents l.parents.items)
