use Rattle.sttr_run.proofs.Fitted.{rules_stand}
use Rattle.sttr_run.proofs.running.looks_stand.Goals as goal

pub returns : goal.returns
returns g c = rules_stand c.args.looks.now c.rules-rules.result.now c.rules-rules.ensures.rules c.rules-rules.ensures.fit
