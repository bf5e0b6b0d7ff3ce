use Rattle.std.proofs.Common.{◌∙◌}
use Rattle.model_grammar.specs.Syntax.{chain}
use Rattle.label_reader.specs.Operands.{parts_from}
use Rattle.label_reader.proofs.levels.remainder.Goals as goal

pub returns : goal.returns
returns c = let two = c.in_ok-two.ensures in let place = c.args.place in (two.0, two.1, c.into_node-node.ensures place ∙ (λ i. chain (two.2.0 i) place (parts_from (two.2.1 i))))
