use Rattle.std.proofs.Common.{◌≡◌, map, take}
use Rattle.fast_tree.specs.Entries.{field_of}
use Rattle.tree_files.specs.Labels.{meant_by}
use Rattle.tree_reader.specs.declared.Constant.{Constant}
use Rattle.tree_files.proofs.labels.label_of.Given as goal

abbrev pub invariant-labels : goal.invariant-labels
invariant-labels l = map field_of l.values.items ≡ map (λ (c : Constant). meant_by c.value) (take l.label-index l.labels)
