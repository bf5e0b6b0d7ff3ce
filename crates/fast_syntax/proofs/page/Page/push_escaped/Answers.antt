use Rattle.std.proofs.Common.{◌++◌, ap, sym, ◌∙◌}
use Rattle.std.specs.Str.{chars}
use Rattle.model_tree.specs.Printed.{escaped}
use Rattle.fast_syntax.proofs.Characters.{if_ok}
use Rattle.fast_syntax.proofs.page.Page.push_escaped.Goals as goal

pub returns-in-34 : goal.returns-in-34
unfolding chars
returns-in-34 c = if_ok c.push_text.result (λ x is. is ∙ ap (λ d. c.args.self.now ++ escaped d) (sym c.in-34.is)) c.push_text.ensures

pub returns-in-92 : goal.returns-in-92
unfolding chars
returns-in-92 c = if_ok c.push_text-in-92.result (λ x is. is ∙ ap (λ d. c.args.self.now ++ escaped d) (sym c.in-92.is)) c.push_text-in-92.ensures

pub returns-in-10 : goal.returns-in-10
unfolding chars
returns-in-10 c = if_ok c.push_text-in-10.result (λ x is. is ∙ ap (λ d. c.args.self.now ++ escaped d) (sym c.in-10.is)) c.push_text-in-10.ensures

pub returns-in-9 : goal.returns-in-9
unfolding chars
returns-in-9 c = if_ok c.push_text-in-9.result (λ x is. is ∙ ap (λ d. c.args.self.now ++ escaped d) (sym c.in-9.is)) c.push_text-in-9.ensures
