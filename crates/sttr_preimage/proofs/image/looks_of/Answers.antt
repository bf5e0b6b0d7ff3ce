use Rattle.std.proofs.Common.{All, length, subst}
use Rattle.sttr_run.specs.Fits.{RuleStands}
use Rattle.sttr_preimage.proofs.Sides.{looks_stand}
use Rattle.sttr_preimage.proofs.image.looks_of.Goals as goal

pub returns-clause-stand : goal.returns-clause-stand
returns-clause-stand g c =
    subst (λ m. All (All (RuleStands m.ranks (length m.rules))) m.rules) c.lookahead-looks.ensures (looks_stand c.lookahead-looks.result.now c.rules-rules.result.now c.rules-rules.ensures.rules c.rules-rules.ensures.fit)
