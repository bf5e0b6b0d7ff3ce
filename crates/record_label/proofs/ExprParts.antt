-- The parts of a conjunction or a disjunction as a list.
use Rattle.std.proofs.Common.{◌≡◌, false, map, Vec, Global, refl, ap, ◌∙◌}
use Rattle.fast_fault.specs.declared.place.Pos.{Pos}
use Rattle.model_grammar.specs.declared.Chain.TheVariants.{Disjunction, Conjunction}
use Rattle.model_grammar.specs.Syntax.{part, chain}
use Rattle.record_label.specs.Parts.{unmarked}
use Rattle.fast_syntax.specs.Plain.{plain_expr, plain_node, plain_row}
use Rattle.fast_syntax.specs.declared.expressions.Expr.{Expr}
use Rattle.fast_syntax.specs.declared.expressions.Node.{Row_of-Expr, end_of-Expr, more_of-Expr, items-the_row-Expr, items_hidden-the_row-Expr-0}
use Rattle.fast_syntax.specs.declared.expressions.Node.TheBlock.{hidden-the_row-Expr-0}
use Rattle.fast_syntax.specs.declared.expressions.Node.TheVariants.{Or, And}

plain_row-items : {n : _} (row : Row_of-Expr n) → plain_row row ≡ unmarked (map plain_expr (items-the_row-Expr _ row))
plain_row-items end_of-Expr = refl
plain_row-items (more_of-Expr at n row) = ap (part false (plain_node n at)) (plain_row-items row)

parts : (v : Vec Expr Global) → plain_row (hidden-the_row-Expr-0 v) ≡ unmarked (map plain_expr v.items)
parts v = plain_row-items (hidden-the_row-Expr-0 v) ∙ ap (λ es. unmarked (map plain_expr es)) (items_hidden-the_row-Expr-0 v)

pub plain_or : (v : Vec Expr Global) (p : Pos) → plain_node (Or v) p ≡ chain Disjunction p (unmarked (map plain_expr v.items))
plain_or v p = ap (chain Disjunction p) (parts v)

pub plain_and : (v : Vec Expr Global) (p : Pos) → plain_node (And v) p ≡ chain Conjunction p (unmarked (map plain_expr v.items))
plain_and v p = ap (chain Conjunction p) (parts v)
