use Rattle.std.proofs.Common.{◌≡◌, map, take}
use Rattle.model_tree.specs.Tree.{relabel}
use Rattle.fast_tree.specs.Entries.{entries_of}
use Rattle.fast_cut.proofs.Parts.{cut_tree}
use Rattle.fast_cut.proofs.Cut+Label.+to_tree.Given as goal

abbrev pub invariant-copy : goal.invariant-copy
invariant-copy l = map (relabel entries_of) l.children.items ≡ map (relabel entries_of) (map cut_tree (take l.part-index l.part-items))
