use mir.Syntax.{w128}
use Rattle.std.specs.Fmt.{signed_decimal}
use Rattle.std.proofs.lemmas.Int.{to_z-of_z}
use Rattle.std.proofs.Common.{◌++◌, ap, ◌∙◌}
use Rattle.std.specs.Str.{chars}
use Rattle.fast_syntax.proofs.Characters.{if_ok, whole_characters}
use Rattle.fast_syntax.proofs.page.Page.number.Goals as goal

pub returns : goal.returns
returns c = if_ok c.push_text.result (λ x is. record { is = is ∙ ap (λ l. c.args.self.now ++ l) (ap chars (c.as_str.ensures.value ∙ c.in_ok-digits.ensures ∙ ap signed_decimal (to_z-of_z w128 c.args.number c.ranges.number)) ∙ whole_characters c.args.number c.ranges.number) }) c.push_text.ensures
