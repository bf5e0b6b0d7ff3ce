use Rattle.std.proofs.Common.{true, false, sym, ◌∙◌}
use Rattle.record_label.proofs.Looking.{count_more}
use Rattle.record_label.proofs.merges.count.Goals as goal
use Rattle.record_label.proofs.merges.count.Goals.{then-eq, else-eq}

pub loop-other-preserved : goal.loop-other-preserved
loop-other-preserved c = elim c.if-eq.branch [
  | then-eq w ↦ count_more c.args.sorts.now c.loop-other.other-index c.args.sort true c.loop-other.count c.if-eq.count _ c.loop-other-test.true (sym w.if-eq.true ∙ c.eq.ensures) w.count-is c.loop-other.invariant
  | else-eq w ↦ count_more c.args.sorts.now c.loop-other.other-index c.args.sort false c.loop-other.count c.if-eq.count _ c.loop-other-test.true (sym w.if-eq.false ∙ c.eq.ensures) w.count-is c.loop-other.invariant
]
