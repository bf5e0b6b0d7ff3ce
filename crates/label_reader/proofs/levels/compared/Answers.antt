use Rattle.std.proofs.Common.{◌∙◌}
use Rattle.model_grammar.specs.Syntax.{compare}
use Rattle.fast_syntax.specs.Plain.{plain_expr}
use Rattle.label_reader.proofs.Keeping.{told_ok}
use Rattle.label_reader.proofs.levels.compared.Goals as goal

pub returns : goal.returns
returns c = let e = c.in_ok-right.ensures in let left = told_ok _ e.1 c.new.ensures.ok in let right = c.in_ok-right-2.ensures.ok ∙ e.0 in
    ((c.in_ok-left.left, c.in_ok-left.right), c.in_ok-left.was, λ i. compare c.args.place c.args.rel (plain_expr (left i)) (plain_expr (right i)))
