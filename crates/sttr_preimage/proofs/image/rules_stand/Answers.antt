use Rattle.sttr_preimage.proofs.Sides.{looks_stand}
use Rattle.sttr_preimage.proofs.image.rules_stand.Goals as goal

pub returns : goal.returns
returns g c = looks_stand c.args.sta.now c.rules-rules.result.now c.rules-rules.ensures.rules c.rules-rules.ensures.fit
