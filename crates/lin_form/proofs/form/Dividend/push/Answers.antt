use Rattle.std.proofs.Common.{ap, ◌∙◌}
use Rattle.lin_form.specs.Nest.{bare, nest}
use Rattle.lin_form.proofs.Nests.{nest_end}
use Rattle.lin_form.proofs.form.Dividend.push.Goals as goal

pub returns : goal.returns
returns c =
    ap (nest c.self.inside.base) (c.in_ok-push.ensures {u = tt}).items
    ∙ nest_end c.self.inside.base c.self.inside.divisors.items c.args.by ∙ ap (λ f. bare f c.args.by) c.self.view_is
