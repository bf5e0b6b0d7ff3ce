-- Slices of the program tree as plain data.
use Rattle.std.specs.Prelude.{List, [], ◌∷◌, false}
use Rattle.fast_syntax.specs.declared.expressions.Expr.{Expr}
use Rattle.fast_syntax.specs.declared.expressions.SumPart.{SumPart}
use Rattle.fast_syntax.specs.declared.expressions.ProdPart.{ProdPart}
use Rattle.fast_syntax.specs.declared.items.X.{X}
use Rattle.fast_syntax.specs.declared.items.Out.{Out}
use Rattle.fast_syntax.specs.Plain.{plain_expr, plain_x, plain_out}
use Rattle.model_grammar.specs.Syntax as plain

abbrev pub plain_operands : List Expr → plain.Parts
plain_operands [] = plain.no_parts
plain_operands (e ∷ es) = plain.part false (plain_expr e) (plain_operands es)

abbrev pub plain_sum_parts : List SumPart → plain.Parts
plain_sum_parts [] = plain.no_parts
plain_sum_parts (p ∷ ps) = plain.part p.minus (plain_expr p.part) (plain_sum_parts ps)

abbrev pub plain_prod_parts : List ProdPart → plain.Parts
plain_prod_parts [] = plain.no_parts
plain_prod_parts (p ∷ ps) = plain.part p.remainder (plain_expr p.part) (plain_prod_parts ps)

abbrev pub plain_children : List X → plain.Xs
plain_children [] = plain.no_x
plain_children (x ∷ xs) = plain.and_x (plain_x x) (plain_children xs)

abbrev pub plain_outputs : List Out → plain.Outs
plain_outputs [] = plain.no_out
plain_outputs (out ∷ outs) = plain.and_out (plain_out out) (plain_outputs outs)
