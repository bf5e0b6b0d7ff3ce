use Rattle.std.proofs.Common.{subst}
use Rattle.sttr_single.specs.Joints.{DemandsOwn}
use Rattle.sttr_single.proofs.More.{own_of_fits}
use Rattle.sttr_single.proofs.states.looks_of.Goals as goal

pub returns-clause-own : goal.returns-clause-own
returns-clause-own g c = subst DemandsOwn c.lookahead-looks.ensures (own_of_fits c.lookahead-looks.result.now c.rules-rules.result.now c.rules-rules.ensures.rules c.rules-rules.ensures.fit)
