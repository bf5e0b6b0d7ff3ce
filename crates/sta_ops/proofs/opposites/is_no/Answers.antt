use Rattle.std.proofs.Common.{sym, ap, ◌∙◌, ◌==◌}
use Rattle.label_core.specs.Formula.{plain_formula}
use Rattle.label_core.proofs.Formulas.{plain_or}
use Rattle.sta_ops.specs.Opposites.{is_no}
use Rattle.sta_ops.proofs.NotRules.{no_parts}
use Rattle.sta_ops.proofs.opposites.is_no.Goals as goal

pub returns-in-Or : goal.returns-in-Or
returns-in-Or g c = c.is_empty.ensures ∙ ap (λ n. n == 0) c.in-Or.parts.ok.0 ∙ no_parts c.in-Or.parts.items ∙ ap is_no (sym (plain_or c.in-Or.parts)) ∙ ap (λ f. is_no (plain_formula f)) (sym c.in-Or.is)
