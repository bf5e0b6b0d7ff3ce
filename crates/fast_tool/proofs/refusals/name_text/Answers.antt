use Rattle.std.proofs.Common.{◌++◌, ◌∙◌}
use Rattle.std.specs.Prelude.{codes, decimal}
use Rattle.fast_tool.proofs.Texts.{name_line_is}
use Rattle.fast_tool.proofs.refusals.name_text.Goals as goal

pub returns : goal.returns
returns c =
    c.in_ok-format.ensures.ok
    ∙ ((λ i. codes "refused " ++ (decimal (c.number-number.ensures i) ++ (codes " " ++ (c.name-name.ensures i ++ codes " at word 3\n")))) ∙ name_line_is c.args.code)
