-- The plain form of a node is that of its parts.
use Rattle.std.proofs.Common.{◌≡◌, false, map, refl, ap, ◌∙◌, Vec, Global}
use mathlib.Core.Former.{Count}
use Rattle.fast_fault.specs.declared.place.Pos.{Pos}
use Rattle.fast_syntax.specs.declared.expressions.Expr.{Expr}
use Rattle.fast_syntax.specs.declared.expressions.SumPart.{SumPart}
use Rattle.fast_syntax.specs.declared.expressions.ProdPart.{ProdPart}
use Rattle.fast_syntax.specs.declared.expressions.Node.{Or, And, Sum, Prod, Or', And', Sum', Prod', Row_of-Expr, end_of-Expr, more_of-Expr, Row_of-SumPart, end_of-SumPart, more_of-SumPart, Row_of-ProdPart, end_of-ProdPart, more_of-ProdPart, items-the_row-Expr, items_hidden-the_row-Expr-0, items-the_row-SumPart, items_hidden-the_row-SumPart-1, items-the_row-ProdPart, items_hidden-the_row-ProdPart-2}
use Rattle.fast_syntax.specs.declared.expressions.Node as expressions
use Rattle.fast_syntax.specs.declared.items.X.{X, Literal, Literal', Row_of-X, end_of-X, more_of-X, items-the_row-X, items_hidden-the_row-X-0}
use Rattle.fast_syntax.specs.declared.items.Out.{Out, Node, Node', Row_of-Out, end_of-Out, more_of-Out, items-the_row-Out, items_hidden-the_row-Out-0}
use Rattle.fast_syntax.specs.declared.Name.{Name}
use Rattle.fast_syntax.specs.View.{plain_name}
use Rattle.fast_syntax.specs.Plain.{plain_node, plain_expr, plain_row, plain_sum, plain_product, plain_x, plain_xs, plain_out, plain_outs}
use Rattle.fast_syntax.specs.Slices.{plain_operands, plain_sum_parts, plain_prod_parts, plain_children, plain_outputs}
use Rattle.model_grammar.specs.declared.Chain.TheVariants as kind
use Rattle.model_grammar.specs.Syntax as plain

row_is : (n : _) (row : Row_of-Expr n) → plain_row row ≡ plain_operands (items-the_row-Expr n row)
row_is n end_of-Expr = refl
row_is n (more_of-Expr at e rest) = ap (λ l. plain.part false (plain_node e at) l) (row_is _ rest)

sum_is : (n : _) (row : Row_of-SumPart n) → plain_sum row ≡ plain_sum_parts (items-the_row-SumPart n row)
sum_is n end_of-SumPart = refl
sum_is n (more_of-SumPart marked at e rest) = ap (λ l. plain.part marked (plain_node e at) l) (sum_is _ rest)

product_is : (n : _) (row : Row_of-ProdPart n) → plain_product row ≡ plain_prod_parts (items-the_row-ProdPart n row)
product_is n end_of-ProdPart = refl
product_is n (more_of-ProdPart marked at e rest) = ap (λ l. plain.part marked (plain_node e at) l) (product_is _ rest)

abbrev or_row : expressions.Node → (n : Count) × Row_of-Expr n
or_row (Or' _ row) = (_, row)
or_row (And' _ row) = (_, row)
or_row _ = (_, end_of-Expr)

abbrev sum_row : expressions.Node → (n : Count) × Row_of-SumPart n
sum_row (Sum' _ row) = (_, row)
sum_row _ = (_, end_of-SumPart)

abbrev product_row : expressions.Node → (n : Count) × Row_of-ProdPart n
product_row (Prod' _ row) = (_, row)
product_row _ = (_, end_of-ProdPart)

pub plain_or : (p : Pos) (parts : Vec Expr Global) → plain_node (Or parts) p ≡ plain.chain kind.Disjunction p (plain_operands parts.items)
plain_or p parts = let row = or_row (Or parts) in ap (λ l. plain.chain kind.Disjunction p l) (row_is row.0 row.1 ∙ ap plain_operands (items_hidden-the_row-Expr-0 parts))

pub plain_and : (p : Pos) (parts : Vec Expr Global) → plain_node (And parts) p ≡ plain.chain kind.Conjunction p (plain_operands parts.items)
plain_and p parts = let row = or_row (And parts) in ap (λ l. plain.chain kind.Conjunction p l) (row_is row.0 row.1 ∙ ap plain_operands (items_hidden-the_row-Expr-0 parts))

pub plain_sum_of : (p : Pos) (parts : Vec SumPart Global) → plain_node (Sum parts) p ≡ plain.chain kind.Sum p (plain_sum_parts parts.items)
plain_sum_of p parts = let row = sum_row (Sum parts) in ap (λ l. plain.chain kind.Sum p l) (sum_is row.0 row.1 ∙ ap plain_sum_parts (items_hidden-the_row-SumPart-1 parts))

pub plain_product_of : (p : Pos) (parts : Vec ProdPart Global) → plain_node (Prod parts) p ≡ plain.chain kind.Product p (plain_prod_parts parts.items)
plain_product_of p parts = let row = product_row (Prod parts) in ap (λ l. plain.chain kind.Product p l) (product_is row.0 row.1 ∙ ap plain_prod_parts (items_hidden-the_row-ProdPart-2 parts))

xs_are : (n : _) (row : Row_of-X n) → plain_xs row ≡ plain_children (items-the_row-X n row)
xs_are n end_of-X = refl
xs_are n (more_of-X x rest) = ap (λ l. plain.and_x (plain_x x) l) (xs_are _ rest)

abbrev x_row : X → (n : Count) × Row_of-X n
x_row (Literal' _ _ _ row) = (_, row)
x_row _ = (_, end_of-X)

pub plain_literal : (n : Name) (labels : Vec Expr Global) (children : Vec X Global) → plain_x (Literal n labels children) ≡ plain.literal (plain_name n) (map plain_expr labels.items) (plain_children children.items)
plain_literal n labels children = let row = x_row (Literal n labels children) in ap (λ l. plain.literal (plain_name n) (map plain_expr labels.items) l) (xs_are row.0 row.1 ∙ ap plain_children (items_hidden-the_row-X-0 children))

outs_are : (n : _) (row : Row_of-Out n) → plain_outs row ≡ plain_outputs (items-the_row-Out n row)
outs_are n end_of-Out = refl
outs_are n (more_of-Out out rest) = ap (λ l. plain.and_out (plain_out out) l) (outs_are _ rest)

abbrev out_row : Out → (n : Count) × Row_of-Out n
out_row (Node' _ _ _ row) = (_, row)
out_row _ = (_, end_of-Out)

pub plain_made : (n : Name) (labels : Vec Expr Global) (children : Vec Out Global) → plain_out (Node n labels children) ≡ plain.node (plain_name n) (map plain_expr labels.items) (plain_outputs children.items)
plain_made n labels children = let row = out_row (Node n labels children) in ap (λ l. plain.node (plain_name n) (map plain_expr labels.items) l) (outs_are row.0 row.1 ∙ ap plain_outputs (items_hidden-the_row-Out-0 children))
