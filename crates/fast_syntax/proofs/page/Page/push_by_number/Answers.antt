use Rattle.std.proofs.Common.{◌++◌, ap, ◌∙◌}
use Rattle.std.specs.Str.{chars}
use Rattle.fast_syntax.proofs.Characters.{if_ok, numbered_characters}
use Rattle.fast_syntax.proofs.page.Page.push_by_number.Goals as goal

pub returns : goal.returns
returns c = if_ok c.push_text.result (λ x is. is ∙ ap (λ l. c.args.self.now ++ l) (ap chars (c.as_str.ensures.value ∙ c.in_ok-number.ensures) ∙ numbered_characters c.args.character c.requires)) c.push_text.ensures
