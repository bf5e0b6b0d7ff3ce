use Rattle.std.proofs.Common.{◌≡◌, ◌++◌}
use Rattle.model_run.specs.Generator.{first_lines, lines_up_to}
use Rattle.fast_tool.proofs.generator.self_text.Given as goal

abbrev pub invariant-numbers : goal.invariant-numbers
invariant-numbers l = l.text.items ≡ first_lines ++ lines_up_to l.before
