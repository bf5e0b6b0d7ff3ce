use Rattle.std.proofs.Common.{sym}
use Rattle.label_core.proofs.Pairs.{left_taken, left_none, right_taken, right_none}
use Rattle.label_core.proofs.pair.parted.Goals.{in-Left+in_ok-add_literal-in-Left, in-Right+in_ok-add_literal-in-Right}
use Rattle.label_core.proofs.pair.parted.Goals as goal

pub loop-literal-preserved : goal.loop-literal-preserved
loop-literal-preserved g c = elim c.match-literal.branch [
  | in-Left+in_ok-add_literal-in-Left w ↦ (
    rw (w.lefts-is, w.in_ok-add_literal-in-Left.ensures {u = tt}, c.loop-literal.invariant.0) (sym (left_taken c.args.literals.now c.loop-literal.literal-index c.literal-item.result w.in-Left.inner c.loop-literal-test.true c.literal-item.is w.in-Left.is)),
    rw (w.rights-is, c.loop-literal.invariant.1) (sym (right_none c.args.literals.now c.loop-literal.literal-index c.literal-item.result w.in-Left.inner c.loop-literal-test.true c.literal-item.is w.in-Left.is)),
  )
  | in-Right+in_ok-add_literal-in-Right w ↦ (
    rw (w.lefts-is, c.loop-literal.invariant.0) (sym (left_none c.args.literals.now c.loop-literal.literal-index c.literal-item.result w.in-Right.inner c.loop-literal-test.true c.literal-item.is w.in-Right.is)),
    rw (w.rights-is, w.in_ok-add_literal-in-Right.ensures {u = tt}, c.loop-literal.invariant.1) (sym (right_taken c.args.literals.now c.loop-literal.literal-index c.literal-item.result w.in-Right.inner c.loop-literal-test.true c.literal-item.is w.in-Right.is)),
  )
]
