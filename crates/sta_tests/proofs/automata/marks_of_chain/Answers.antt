use Rattle.sta_tests.proofs.automata.marks_of_chain.Goals as goal

pub mark_nodes-requires-clause-fits : goal.mark_nodes-requires-clause-fits
mark_nodes-requires-clause-fits c = rw c.new-theory.ensures c.in_ok-sta.ensures.fits

pub mark_nodes-requires-clause-labels : goal.mark_nodes-requires-clause-labels
mark_nodes-requires-clause-labels c = rw c.new-theory.ensures c.in_ok-tree.ensures
