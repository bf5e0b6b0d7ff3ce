use Rattle.std.proofs.Common.{map}
use Rattle.fast_tree.specs.Signatures.{plain_sort}
use Rattle.record_label.specs.Rows.{merged}
use Rattle.record_label.proofs.Merging.{AreLeftAt}
use Rattle.record_label.proofs.merges.merge.Given as goal

abbrev pub invariant-loop-sort : goal.invariant-loop-sort
invariant-loop-sort l = AreLeftAt l.sorts l.sort-index l.numbers.items l.truths.items l.texts.items l.values.items (merged (map plain_sort l.sorts) l.initial.numbers.items l.initial.truths.items l.initial.texts.items)
