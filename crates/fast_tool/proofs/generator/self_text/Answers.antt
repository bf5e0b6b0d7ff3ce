use Rattle.std.proofs.Common.{◌≡◌, ◌++◌, ◌∙◌, ap, arith}
use Rattle.model_run.specs.Generator.{first_lines, lines_up_to}
use Rattle.fast_tool.proofs.Generated.{lines_more}
use Rattle.fast_tool.proofs.generator.self_text.Goals as goal

pub numbers-preserved : goal.numbers-preserved
numbers-preserved c = lines_more c.numbers.text.items _ c.numbers.before c.numbers.invariant c.in_ok-append_lines.ensures

pub returns : goal.returns
returns c =
    let whole : c.numbers.before ≡ c.args.number = omega arith in
    c.numbers.invariant ∙ ap (λ k. first_lines ++ lines_up_to k) whole
