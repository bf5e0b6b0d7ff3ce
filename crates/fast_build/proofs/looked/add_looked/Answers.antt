use Rattle.std.proofs.Common.{map, subst}
use Rattle.fast_syntax.specs.Plain.{plain_out_rule}
use Rattle.fast_syntax.specs.View.{plain_demand}
use Rattle.fast_build.specs.Reached.{IsGrown, demanded_by}
use Rattle.fast_build.specs.Called.{looked_in}
use Rattle.fast_build.proofs.Calling.{flat_more}
use Rattle.fast_build.proofs.Grown.{grown_step}
use Rattle.fast_build.proofs.looked.add_looked.Goals as goal

pub rules-preserved : goal.rules-preserved
rules-preserved c =
    grown_step (λ rs. looked_in (map plain_out_rule rs)) (λ r. demanded_by (plain_out_rule r).rule.given) (flat_more plain_out_rule (λ r. demanded_by r.rule.given)) c.args.rules.now c.rules.rule-index c.rule-item.result _ _ _ c.rules-test.true c.rule-item.is c.rules.invariant
    (subst (λ ds. IsGrown c.rules.names.keys c.add_demanded.new.names.keys (demanded_by (map plain_demand ds))) c.deref.ensures.value c.in_ok-add_demanded.ensures)
