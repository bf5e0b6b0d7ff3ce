-- A program tree with places aside: one place stands everywhere.
use Rattle.std.specs.Prelude.{List, map, Option, Some, None}
use Rattle.fast_fault.specs.declared.place.Pos.{Pos}
use Rattle.model_program.specs.Syntax.{Name, FieldItem, CtorItem, TypeItem, Demand}
use Rattle.model_grammar.specs.Syntax.{Expr, field, number, text, truth, negation, compare, minus, chain, Parts, no_parts, part, X, named, one, two, literal, Xs, no_x, and_x, Out, child, call, node, Outs, no_out, and_out, Rule, OutRule, TreeItem, LangItem, TransItem, DefItem, Claim, equal, member, empty, type_check, Body, sorts, tree, lang, trans, def, assertion, Item}

abbrev pub nowhere : Pos
nowhere = record { line = 1; column = 1 }

abbrev pub bare_name : Name → Name
bare_name n = record { text = n.text; place = nowhere }

abbrev mutual
  pub bare : Expr → Expr
  bare (field p t) = field nowhere t
  bare (number p n) = number nowhere n
  bare (text p t) = text nowhere t
  bare (truth p b) = truth nowhere b
  bare (negation p e) = negation nowhere (bare e)
  bare (compare p r a b) = compare nowhere r (bare a) (bare b)
  bare (minus p e) = minus nowhere (bare e)
  bare (chain kind p parts) = chain kind nowhere (bare_parts parts)

  pub bare_parts : Parts → Parts
  bare_parts no_parts = no_parts
  bare_parts (part marked e parts) = part marked (bare e) (bare_parts parts)

abbrev mutual
  pub bare_x : X → X
  bare_x (named n) = named (bare_name n)
  bare_x (one op p x) = one op nowhere (bare_x x)
  bare_x (two op p x y) = two op nowhere (bare_x x) (bare_x y)
  bare_x (literal n labels xs) = literal (bare_name n) (map bare labels) (bare_xs xs)

  pub bare_xs : Xs → Xs
  bare_xs no_x = no_x
  bare_xs (and_x x xs) = and_x (bare_x x) (bare_xs xs)

abbrev mutual
  pub bare_out : Out → Out
  bare_out (child n) = child (bare_name n)
  bare_out (call q y) = call (bare_name q) (bare_name y)
  bare_out (node n labels outs) = node (bare_name n) (map bare labels) (bare_outs outs)

  pub bare_outs : Outs → Outs
  bare_outs no_out = no_out
  bare_outs (and_out out outs) = and_out (bare_out out) (bare_outs outs)

abbrev pub bare_field : FieldItem → FieldItem
bare_field f = record { name = bare_name f.name; sort = bare_name f.sort }

abbrev pub bare_ctor : CtorItem → CtorItem
bare_ctor c = record { name = bare_name c.name; rank = c.rank }

abbrev pub bare_type : TypeItem → TypeItem
bare_type t = record { name = bare_name t.name; fields = map bare_field t.fields; ctors = map bare_ctor t.ctors }

abbrev pub bare_demand : Demand → Demand
bare_demand d = record { language = bare_name d.language; child = bare_name d.child }

abbrev pub bare_guard : Option Expr → Option Expr
bare_guard None = None
bare_guard (Some e) = Some (bare e)

abbrev pub bare_rule : Rule → Rule
bare_rule r = record { ctor = bare_name r.ctor; vars = map bare_name r.vars; guard = bare_guard r.guard; given = map bare_demand r.given }

abbrev pub bare_out_rule : OutRule → OutRule
bare_out_rule r = record { rule = bare_rule r.rule; out = bare_out r.out }

abbrev pub bare_into : Option Name → Option Name
bare_into None = None
bare_into (Some n) = Some (bare_name n)

abbrev pub bare_claim : Claim → Claim
bare_claim (equal x y) = equal (bare_x x) (bare_x y)
bare_claim (member x y) = member (bare_x x) (bare_x y)
bare_claim (empty x) = empty (bare_x x)
bare_claim (type_check x y z) = type_check (bare_x x) (bare_x y) (bare_x z)

abbrev pub bare_tree : TreeItem → TreeItem
bare_tree t = record { name = bare_name t.name; of = bare_name t.of; value = bare_x t.value }

abbrev pub bare_lang : LangItem → LangItem
bare_lang l = record { name = bare_name l.name; of = bare_name l.of; rules = map bare_rule l.rules }

abbrev pub bare_trans : TransItem → TransItem
bare_trans t = record { name = bare_name t.name; from = bare_name t.from; into = bare_name t.into; rules = map bare_out_rule t.rules }

abbrev pub bare_def : DefItem → DefItem
bare_def d = record { name = bare_name d.name; from = bare_name d.from; into = bare_into d.into; value = bare_x d.value }

abbrev pub bare_body : Body → Body
bare_body (sorts t) = sorts (bare_type t)
bare_body (tree t) = tree (bare_tree t)
bare_body (lang l) = lang (bare_lang l)
bare_body (trans t) = trans (bare_trans t)
bare_body (def d) = def (bare_def d)
bare_body (assertion a) = assertion (record { wanted = a.wanted; claim = bare_claim a.claim })

abbrev pub bare_item : Item → Item
bare_item item = record { place = nowhere; body = bare_body item.body }

-- the items with places aside
abbrev pub bare_items : List Item → List Item
bare_items items = map bare_item items
