-- Programs over trees without fields, for examples.
use Rattle.std.specs.Prelude.{ℕ, pos, true, List, [], Some, None, map, codes}
use Rattle.fast_fault.specs.declared.place.Pos.{Pos}
use Rattle.model_tree.specs.Label.{row}
use Rattle.model_tree.specs.Tree.{trees_of, LabelTree}
use Rattle.model_tree.specs.Tree as trees
use Rattle.model_program.specs.Syntax.{Name, Demand, CtorItem}
use Rattle.model_grammar.specs.declared.Op1.TheVariants.{Complement}
use Rattle.model_grammar.specs.declared.Op2.{Op2}
use Rattle.model_grammar.specs.Syntax.{X, named, one, two, Out, child, call, node, outs_of, Rule, OutRule, Claim, Item, sorts, lang, trans, def, assertion}

abbrev pub here : Pos
here = record { line = 1; column = 1 }

abbrev pub name : List ℕ → Name
name text = record { text = text; place = here }

abbrev pub x : List ℕ → X
x text = named (name text)

-- a constructor with this number of children
abbrev pub ctor : List ℕ → ℕ → CtorItem
ctor text rank = record { name = name text; rank = pos rank }

-- `type B[]{ .. }`
abbrev pub type_item : List CtorItem → Item
type_item ctors = record { place = here; body = sorts (record { name = name (codes "B"); fields = []; ctors = ctors }) }

-- the child that a variable names is in a language
abbrev pub demand : List ℕ → List ℕ → Demand
demand language y = record { language = name language; child = name y }

abbrev pub rule : List ℕ → List (List ℕ) → List Demand → Rule
rule text vars given = record { ctor = name text; vars = map name vars; guard = None; given = given }

-- a rule `to` a term
abbrev pub to : Rule → Out → OutRule
to r out = record { rule = r; out = out }

abbrev pub keep : List ℕ → Out
keep y = child (name y)

abbrev pub apply : List ℕ → List ℕ → Out
apply q y = call (name q) (name y)

abbrev pub make : List ℕ → List Out → Out
make text outs = node (name text) [] (outs_of outs)

-- `lang NAME : B { .. }`, `trans NAME : B -> B { .. }`, `def NAME : B := (complement X)`, `def NAME : B := (OP X Y)` and `def NAME : B -> B := (OP X Y)`
abbrev pub lang_item : List ℕ → List Rule → Item
lang_item text rules = record { place = here; body = lang (record { name = name text; of = name (codes "B"); rules = rules }) }

abbrev pub trans_item : List ℕ → List OutRule → Item
trans_item text rules = record { place = here; body = trans (record { name = name text; from = name (codes "B"); into = name (codes "B"); rules = rules }) }

abbrev pub complement_item : List ℕ → List ℕ → Item
complement_item text operand = record { place = here; body = def (record { name = name text; from = name (codes "B"); into = None; value = one Complement here (x operand) }) }

abbrev pub language_item : List ℕ → Op2 → List ℕ → List ℕ → Item
language_item text op first second = record { place = here; body = def (record { name = name text; from = name (codes "B"); into = None; value = two op here (x first) (x second) }) }

abbrev pub transformation_item : List ℕ → Op2 → List ℕ → List ℕ → Item
transformation_item text op first second = record { place = here; body = def (record { name = name text; from = name (codes "B"); into = Some (name (codes "B")); value = two op here (x first) (x second) }) }

-- `assert-true` of a statement, in a line of the text
abbrev pub assert_item : ℕ → Claim → Item
assert_item line claim = record { place = record { line = line; column = 1 }; body = assertion (record { wanted = true; claim = claim }) }

-- a tree with this constructor
abbrev pub t : ℕ → List LabelTree → LabelTree
t c ts = trees.node c (row []) (trees_of ts)
