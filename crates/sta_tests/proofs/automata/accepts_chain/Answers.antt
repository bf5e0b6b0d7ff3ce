use Rattle.sta_tests.proofs.automata.accepts_chain.Goals as goal

pub accepts-requires-clause-fits : goal.accepts-requires-clause-fits
accepts-requires-clause-fits c = rw c.new-theory.ensures c.in_ok-sta.ensures.fits

pub accepts-requires-clause-labels : goal.accepts-requires-clause-labels
accepts-requires-clause-labels c = rw c.new-theory.ensures c.in_ok-tree.ensures
