-- The place of an expression is that of its node.
use Rattle.std.proofs.Common.{◌≡◌, refl}
use Rattle.fast_fault.specs.declared.place.Pos.{Pos}
use Rattle.fast_syntax.specs.declared.expressions.Expr.{Expr}
use Rattle.fast_syntax.specs.declared.expressions.Node.{Node, Field, Num, Str, Truth, Or', And', Not', Compare', Sum', Prod', Minus'}
use Rattle.fast_syntax.specs.Plain.{plain_node, plain_expr}
use Rattle.model_checks.specs.Sorts.{place_of}

node_place : (n : Node) (p : Pos) → place_of (plain_node n p) ≡ p
node_place (Field t) p = refl
node_place (Num n) p = refl
node_place (Str t) p = refl
node_place (Truth b) p = refl
node_place (Or' shape row) p = refl
node_place (And' shape row) p = refl
node_place (Not' q at n) p = refl
node_place (Compare' r q at a s at2 b) p = refl
node_place (Sum' shape row) p = refl
node_place (Prod' shape row) p = refl
node_place (Minus' q at n) p = refl

pub place_is : (e : Expr) → place_of (plain_expr e) ≡ e.place
place_is e = node_place e.node e.place
