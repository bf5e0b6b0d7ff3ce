use Rattle.ops_tests.proofs.alphabet.Alphabet.accepts.Goals as goal

pub accepts-requires-clause-labels : goal.accepts-requires-clause-labels
accepts-requires-clause-labels c = rw c.new-theory.ensures c.requires.labels
