use Rattle.std.proofs.lemmas.Result.{MatchResult-weaker}
use Rattle.lin_form.proofs.Outside.{none_outside}
use Rattle.lin_form.proofs.form.Form.simpler.Goals as goal

pub returns-clause-in_range : goal.returns-clause-in_range
returns-clause-in_range c = MatchResult-weaker c.finish.result c.finish.ensures.in_range (λ f h. none_outside f h) (λ e u. u)
