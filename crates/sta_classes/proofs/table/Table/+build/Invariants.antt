use Rattle.std.proofs.Common.{◌<◌, take, map}
use Rattle.model_tree.specs.Tree.{relabel}
use Rattle.model_sta.specs.Least.{relabel_found, IsWitness}
use Rattle.sta_core.specs.Sta.{automaton_of}
use Rattle.model_sta.specs.Pairwise.{Pairwise}
use Rattle.sta_classes.specs.declared.class.TheConstants.{CAP}
use Rattle.sta_classes.proofs.table.Table.+build.Given as goal

abbrev pub decreases-build : goal.decreases-build
decreases-build g l = l.class

abbrev pub invariant-children : goal.invariant-children
invariant-children g l =
    Pairwise (λ j u. (j < l.class) × IsWitness CAP l.self.machine.ranks (g.T.Theory.meaning l.theory).keeps (automaton_of g.T.Theory.atom_holds l.self.machine) (map (relabel_found g.T.Theory.label_of) l.self.found) j u)
    (take l.child-index l.child-items) (map (relabel g.T.Theory.label_of) l.children.items)
