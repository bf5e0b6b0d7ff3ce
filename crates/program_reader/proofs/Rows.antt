-- The plain form of a node is that of its children.
use Rattle.std.proofs.Common.{◌≡◌, map, refl, ap, ◌∙◌, Vec, Global}
use mathlib.Core.Former.{Count}
use Rattle.fast_syntax.specs.declared.Name.{Name}
use Rattle.fast_syntax.specs.declared.expressions.Expr.{Expr}
use Rattle.fast_syntax.specs.declared.items.X.{X, Literal, Literal', Row_of-X, end_of-X, more_of-X, items-the_row-X, items_hidden-the_row-X-0}
use Rattle.fast_syntax.specs.declared.items.Out.{Out, Node, Node', Row_of-Out, end_of-Out, more_of-Out, items-the_row-Out, items_hidden-the_row-Out-0}
use Rattle.fast_syntax.specs.View.{plain_name}
use Rattle.fast_syntax.specs.Plain.{plain_expr, plain_x, plain_xs, plain_out, plain_outs}
use Rattle.model_grammar.specs.Syntax.{literal, and_x, xs_of, node, and_out, outs_of}

xs_is : (n : _) (row : Row_of-X n) → plain_xs row ≡ xs_of (map plain_x (items-the_row-X n row))
xs_is n end_of-X = refl
xs_is n (more_of-X x rest) = ap (λ l. and_x (plain_x x) l) (xs_is _ rest)

abbrev x_row : X → (n : Count) × Row_of-X n
x_row (Literal' _ _ _ row) = (_, row)
x_row _ = (_, end_of-X)

pub plain_literal : (n : Name) (labels : Vec Expr Global) (xs : Vec X Global) → plain_x (Literal n labels xs) ≡ literal (plain_name n) (map plain_expr labels.items) (xs_of (map plain_x xs.items))
plain_literal n labels xs = let row = x_row (Literal n labels xs) in ap (λ l. literal (plain_name n) (map plain_expr labels.items) l) (xs_is row.0 row.1 ∙ ap (λ l. xs_of (map plain_x l)) (items_hidden-the_row-X-0 xs))

outs_is : (n : _) (row : Row_of-Out n) → plain_outs row ≡ outs_of (map plain_out (items-the_row-Out n row))
outs_is n end_of-Out = refl
outs_is n (more_of-Out out rest) = ap (λ l. and_out (plain_out out) l) (outs_is _ rest)

abbrev out_row : Out → (n : Count) × Row_of-Out n
out_row (Node' _ _ _ row) = (_, row)
out_row _ = (_, end_of-Out)

pub plain_made : (n : Name) (labels : Vec Expr Global) (outs : Vec Out Global) → plain_out (Node n labels outs) ≡ node (plain_name n) (map plain_expr labels.items) (outs_of (map plain_out outs.items))
plain_made n labels outs = let row = out_row (Node n labels outs) in ap (λ l. node (plain_name n) (map plain_expr labels.items) l) (outs_is row.0 row.1 ∙ ap (λ l. outs_of (map plain_out l)) (items_hidden-the_row-Out-0 outs))
