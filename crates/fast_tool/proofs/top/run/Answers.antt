use Rattle.model_run.proofs.Complete.{completes}
use Rattle.fast_tool.proofs.top.run.Goals as goal

pub returns-clause-complete : goal.returns-clause-complete
returns-clause-complete g c = λ form doable. completes _ _ _ c.obey.ensures.report.0 form c.obey.ensures.report.1 doable
