use Rattle.std.proofs.Common.{ap, ◌∙◌}
use Rattle.model_form.specs.Form.{value}
use Rattle.model_form.proofs.Simplified.{simpler_form-value}
use Rattle.lin_solve.proofs.Branched.{ok_weaker}
use Rattle.lin_solve.proofs.puts.simpler.Goals as goal

pub returns : goal.returns
returns c =
    ok_weaker c.simpler.result _ _ _ (λ f e vs. ap (λ h. value h vs) e ∙ simpler_form-value c.args.form.now vs c.constant.ensures.whole.over c.constant.ensures.whole.divided) c.simpler.ensures.form
