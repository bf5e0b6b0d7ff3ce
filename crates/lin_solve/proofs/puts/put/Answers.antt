use Rattle.std.proofs.Common.{ap, ◌∙◌}
use Rattle.model_form.specs.Form.{value}
use Rattle.model_form.proofs.Values.{subst_form-value}
use Rattle.lin_solve.proofs.Branched.{ok_weaker}
use Rattle.lin_solve.proofs.puts.put.Goals as goal

pub returns : goal.returns
returns c =
    ok_weaker c.simpler.result _ _ _ (λ f e vs. e vs ∙ ap (λ h. value h vs) (c.in_ok-put.ensures {u = tt}).form ∙ subst_form-value c.args.form.now c.args.forms.now vs c.requires) c.simpler.ensures
