use Rattle.std.proofs.Common.{◌≡◌, map, take}
use Rattle.model_tree.specs.Tree.{relabel}
use Rattle.fast_tree.specs.Entries.{entries_of}
use Rattle.fast_tree.proofs.tree.Tree+Label.+copy.Given as goal

abbrev pub invariant-loop-child : goal.invariant-loop-child
invariant-loop-child l = map (relabel entries_of) l.children.items ≡ map (relabel entries_of) (take l.child-index l.child-items)
