use Rattle.sta_tests.proofs.automata.has_left_alone.Goals as goal

pub find-requires : goal.find-requires
find-requires c = record { fit = rw (c.deref.ensures.value, c.new-theory.ensures.left, c.new-theory.ensures.right, c.new.ensures, c.new-2.ensures) c.in_ok-formulas.ensures }
