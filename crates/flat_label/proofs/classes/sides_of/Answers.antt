use Rattle.flat_label.proofs.Equalities.{none_joined, joined_sides, kept_sides}
use Rattle.flat_label.proofs.classes.sides_of.Goals.{then-literal+in_ok-joined+in-Some, else-literal}
use Rattle.flat_label.proofs.classes.sides_of.Goals as goal

pub returns-in-None : goal.returns-in-None
returns-in-None c =
    none_joined c.args.fields c.args.literals.now c.loop-literal.literal-index c.literal-item.result c.loop-literal-test.true c.literal-item.is c.loop-literal.sides.items c.if-literal.true c.loop-literal.invariant
    (rw (c.in-None.is, c.deref.ensures.value) at c.in_ok-joined.ensures)

pub loop-literal-preserved : goal.loop-literal-preserved
loop-literal-preserved c = elim c.if-literal.branch [
  | then-literal+in_ok-joined+in-Some w ↦ rw w.sides-is (joined_sides c.args.fields c.args.literals.now c.loop-literal.literal-index c.literal-item.result c.loop-literal-test.true c.literal-item.is c.loop-literal.sides.items w.in-Some.new.items w.if-literal.true c.loop-literal.invariant (rw (w.in-Some.is, w.deref.ensures.value) at w.in_ok-joined.ensures))
  | else-literal w ↦ rw w.sides-is (kept_sides c.args.fields c.args.literals.now c.loop-literal.literal-index c.literal-item.result c.loop-literal-test.true c.literal-item.is c.loop-literal.sides.items w.if-literal.false c.loop-literal.invariant)
]
