use Rattle.sttr_compose.proofs.Composed.{same_machine}
use Rattle.sttr_compose.proofs.fused.as_second.Goals as goal

pub returns-clause-same : goal.returns-clause-same
returns-clause-same g c = same_machine _ c.args.trans.now.sttr c.looks_of-looks.ensures.looks c.rules-rules.ensures
