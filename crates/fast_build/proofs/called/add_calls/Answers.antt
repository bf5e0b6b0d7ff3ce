use Rattle.fast_syntax.specs.Plain.{plain_out_rule}
use Rattle.fast_build.specs.Called.{called_by, called_in}
use Rattle.fast_build.proofs.Calling.{flat_more}
use Rattle.fast_build.proofs.Grown.{grown_step}
use Rattle.std.proofs.Common.{map}
use Rattle.fast_build.proofs.called.add_calls.Goals as goal

pub calls-preserved : goal.calls-preserved
calls-preserved c =
    grown_step (λ rs. called_in (map plain_out_rule rs)) (λ r. called_by (plain_out_rule r).out) (flat_more plain_out_rule (λ r. called_by r.out)) c.args.rules.now c.calls.rule-index c.rule-item.result _ _ _ c.calls-test.true c.rule-item.is c.calls.invariant c.in_ok-add_called.ensures
