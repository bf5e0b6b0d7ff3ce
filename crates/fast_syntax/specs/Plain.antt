-- The whole program tree of the code as plain data.
use Rattle.std.specs.Prelude.{List, map, false, Option, Some, None}
use Rattle.fast_fault.specs.declared.place.Pos.{Pos}
use Rattle.fast_syntax.specs.declared.expressions.Expr.{Expr}
use Rattle.fast_syntax.specs.declared.expressions.Node.{Node, Field, Num, Str, Truth, Or', And', Not', Compare', Sum', Prod', Minus', Row_of-Expr, end_of-Expr, more_of-Expr, Row_of-SumPart, end_of-SumPart, more_of-SumPart, Row_of-ProdPart, end_of-ProdPart, more_of-ProdPart}
use Rattle.fast_syntax.specs.declared.items.X.{X, Named, One', Two', Literal', Row_of-X, end_of-X, more_of-X}
use Rattle.fast_syntax.specs.declared.items.Out.{Out, Child, Call, Node', Row_of-Out, end_of-Out, more_of-Out}
use Rattle.fast_syntax.specs.declared.items.Program.{Program}
use Rattle.fast_syntax.specs.declared.items.Item.{Item}
use Rattle.fast_syntax.specs.declared.items.Body.{Body}
use Rattle.fast_syntax.specs.declared.items.Body.TheVariants.{Sorts, Tree, Lang, Trans, Def, Assert}
use Rattle.fast_syntax.specs.declared.items.TreeItem.{TreeItem}
use Rattle.fast_syntax.specs.declared.items.LangItem.{LangItem}
use Rattle.fast_syntax.specs.declared.items.TransItem.{TransItem}
use Rattle.fast_syntax.specs.declared.items.DefItem.{DefItem}
use Rattle.fast_syntax.specs.declared.items.Rule.{Rule}
use Rattle.fast_syntax.specs.declared.items.OutRule.{OutRule}
use Rattle.fast_syntax.specs.declared.items.AssertItem.{AssertItem}
use Rattle.fast_syntax.specs.declared.items.Claim.{Claim}
use Rattle.fast_syntax.specs.declared.items.Claim.TheVariants.{Equal, Member, Empty, TypeCheck}
use Rattle.fast_syntax.specs.declared.Name.{Name}
use Rattle.fast_syntax.specs.View.{plain_name, plain_type, plain_demand}
use Rattle.model_grammar.specs.declared.Chain.TheVariants.{Disjunction, Conjunction, Sum, Product}
use Rattle.model_program.specs.Syntax as named
use Rattle.model_grammar.specs.Syntax as plain

abbrev mutual
  pub plain_node : Node → Pos → plain.Expr
  plain_node (Field t) p = plain.field p t
  plain_node (Num n) p = plain.number p n
  plain_node (Str t) p = plain.text p t
  plain_node (Truth b) p = plain.truth p b
  plain_node (Or' shape row) p = plain.chain Disjunction p (plain_row row)
  plain_node (And' shape row) p = plain.chain Conjunction p (plain_row row)
  plain_node (Not' q at n) p = plain.negation p (plain_node n at)
  plain_node (Compare' r q at a s at2 b) p = plain.compare p r (plain_node a at) (plain_node b at2)
  plain_node (Sum' shape row) p = plain.chain Sum p (plain_sum row)
  plain_node (Prod' shape row) p = plain.chain Product p (plain_product row)
  plain_node (Minus' q at n) p = plain.minus p (plain_node n at)

  pub plain_row : {m : _} → Row_of-Expr m → plain.Parts
  plain_row end_of-Expr = plain.no_parts
  plain_row (more_of-Expr at n rest) = plain.part false (plain_node n at) (plain_row rest)

  pub plain_sum : {m : _} → Row_of-SumPart m → plain.Parts
  plain_sum end_of-SumPart = plain.no_parts
  plain_sum (more_of-SumPart marked at n rest) = plain.part marked (plain_node n at) (plain_sum rest)

  pub plain_product : {m : _} → Row_of-ProdPart m → plain.Parts
  plain_product end_of-ProdPart = plain.no_parts
  plain_product (more_of-ProdPart marked at n rest) = plain.part marked (plain_node n at) (plain_product rest)

abbrev pub plain_expr : Expr → plain.Expr
plain_expr e = plain_node e.node e.place

abbrev mutual
  pub plain_x : X → plain.X
  plain_x (Named n) = plain.named (plain_name n)
  plain_x (One' op p q x) = plain.one op p (plain_x x)
  plain_x (Two' op p q x s y) = plain.two op p (plain_x x) (plain_x y)
  plain_x (Literal' n labels shape row) = plain.literal (plain_name n) (map plain_expr labels.items) (plain_xs row)

  pub plain_xs : {m : _} → Row_of-X m → plain.Xs
  plain_xs end_of-X = plain.no_x
  plain_xs (more_of-X x rest) = plain.and_x (plain_x x) (plain_xs rest)

abbrev mutual
  pub plain_out : Out → plain.Out
  plain_out (Child n) = plain.child (plain_name n)
  plain_out (Call q y) = plain.call (plain_name q) (plain_name y)
  plain_out (Node' n labels shape row) = plain.node (plain_name n) (map plain_expr labels.items) (plain_outs row)

  pub plain_outs : {m : _} → Row_of-Out m → plain.Outs
  plain_outs end_of-Out = plain.no_out
  plain_outs (more_of-Out out rest) = plain.and_out (plain_out out) (plain_outs rest)

abbrev pub plain_guard : Option Expr → Option plain.Expr
plain_guard None = None
plain_guard (Some e) = Some (plain_expr e)

abbrev pub plain_rule : Rule → plain.Rule
plain_rule r = record { ctor = plain_name r.ctor; vars = map plain_name r.vars.items; guard = plain_guard r.guard; given = map plain_demand r.given.items }

abbrev pub plain_out_rule : OutRule → plain.OutRule
plain_out_rule r = record { rule = plain_rule r.rule; out = plain_out r.out }

abbrev pub plain_tree : TreeItem → plain.TreeItem
plain_tree t = record { name = plain_name t.name; of = plain_name t.of; value = plain_x t.value }

abbrev pub plain_lang : LangItem → plain.LangItem
plain_lang l = record { name = plain_name l.name; of = plain_name l.of; rules = map plain_rule l.rules.items }

abbrev pub plain_trans : TransItem → plain.TransItem
plain_trans t = record { name = plain_name t.name; from = plain_name t.from; into = plain_name t.into; rules = map plain_out_rule t.rules.items }

abbrev pub plain_into : Option Name → Option named.Name
plain_into None = None
plain_into (Some n) = Some (plain_name n)

abbrev pub plain_def : DefItem → plain.DefItem
plain_def d = record { name = plain_name d.name; from = plain_name d.from; into = plain_into d.into; value = plain_x d.value }

abbrev pub plain_claim : Claim → plain.Claim
plain_claim (Equal x y) = plain.equal (plain_x x) (plain_x y)
plain_claim (Member x y) = plain.member (plain_x x) (plain_x y)
plain_claim (Empty x) = plain.empty (plain_x x)
plain_claim (TypeCheck x y z) = plain.type_check (plain_x x) (plain_x y) (plain_x z)

abbrev pub plain_assert : AssertItem → plain.AssertItem
plain_assert a = record { wanted = a.wanted; claim = plain_claim a.claim }

abbrev pub plain_body : Body → plain.Body
plain_body (Sorts item) = plain.sorts (plain_type item)
plain_body (Tree item) = plain.tree (plain_tree item)
plain_body (Lang item) = plain.lang (plain_lang item)
plain_body (Trans item) = plain.trans (plain_trans item)
plain_body (Def item) = plain.def (plain_def item)
plain_body (Assert item) = plain.assertion (plain_assert item)

abbrev pub plain_item : Item → plain.Item
plain_item item = record { place = item.place; body = plain_body item.body }

abbrev pub plain_program : Program → List plain.Item
plain_program program = map plain_item program.items.items
