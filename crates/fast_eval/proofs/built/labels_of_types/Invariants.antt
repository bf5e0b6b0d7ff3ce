use Rattle.std.proofs.Common.{take}
use Rattle.fast_build.specs.Items.{items_of}
use Rattle.fast_eval.proofs.Labels.{HaveLabels}
use Rattle.fast_eval.proofs.built.labels_of_types.Given as goal

abbrev pub invariant-items : goal.invariant-items
invariant-items l = HaveLabels (items_of l.checked) (take l.item-index (items_of l.checked)) l.labels
