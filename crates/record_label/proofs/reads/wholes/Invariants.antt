use Rattle.std.proofs.Common.{take, map}
use Rattle.fast_tree.specs.Entries.{field_of}
use Rattle.model_guard.specs.Forms.{wholes_in}
use Rattle.record_label.proofs.Filling.{AreFirst}
use Rattle.record_label.proofs.reads.wholes.Given as goal

abbrev pub invariant-loop-value : goal.invariant-loop-value
invariant-loop-value l = AreFirst l.wholes l.count (wholes_in (map field_of (take l.value-index l.values)))
