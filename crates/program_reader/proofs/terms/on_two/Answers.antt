use Rattle.std.proofs.Common.{◌∙◌}
use Rattle.model_grammar.specs.Syntax.{two}
use Rattle.fast_syntax.specs.Plain.{plain_x}
use Rattle.label_reader.proofs.Keeping.{told_ok}
use Rattle.program_reader.proofs.terms.on_two.Goals as goal

pub returns : goal.returns
returns c = let e = c.in_ok-second.ensures in λ i. two c.args.op c.args.place (plain_x (told_ok _ e.1 c.new.ensures.ok i)) (plain_x ((c.in_ok-second-2.ensures.ok ∙ e.0) i))
