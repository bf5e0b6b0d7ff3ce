use Rattle.sta_min.proofs.Stepping.{state_fits}
use Rattle.sta_min.proofs.steps.states_of.Goals as goal

pub one_applies-requires-clause-fit : goal.one_applies-requires-clause-fit
one_applies-requires-clause-fit g c = state_fits (g.T.Theory.atom_fits c.args.theory.now) c.args.steps.now.rules.now c.rules-item.result c.deref.result.now c.states.rules-index c.states-test.true c.rules-item.is c.deref.ensures.value c.requires.read.fit
