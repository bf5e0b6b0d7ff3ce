-- A program that is well-formed, and programs in which several conditions fail.
use Rattle.std.specs.Prelude.{◌≡◌, ℕ, pos, true, false, List, [], ◌∷◌, Option, Some, None, codes}
use Rattle.fast_fault.specs.declared.code.Code.TheVariants.{UnknownName, WrongKind, WrongSort, NotLinear, NumberRange}
use Rattle.fast_fault.specs.declared.place.Pos.{Pos}
use Rattle.model_program.specs.Syntax.{Name, Demand}
use Rattle.model_grammar.specs.declared.Chain.TheVariants.{Conjunction, Sum, Product}
use Rattle.model_grammar.specs.declared.Op1.TheVariants.{GetWitness}
use Rattle.model_grammar.specs.declared.Op2.TheVariants.{Intersect, Compose, Apply, PreImage}
use Rattle.model_grammar.specs.declared.Rel.TheVariants.{Equal, Less}
use Rattle.model_grammar.specs.Syntax.{Expr, field, number, text, truth, compare, chain, no_parts, part, X, named, one, two, literal, no_x, and_x, Rule, child, call, node, no_out, and_out, Claim, equal, member, empty, type_check, Body, Item, sorts, tree, lang, trans, def, assertion}
use Rattle.model_checks.specs.Programs.{is_well_formed}
use Rattle.model_checks.specs.Vectors.{Refused}

-- places are columns of one line, and where they don't matter all is at the first
abbrev pub column : ℕ → Pos
column n = record { line = 1; column = n }

abbrev at : List ℕ → ℕ → Name
at called n = record { text = called; place = column n }

abbrev name : List ℕ → Name
name called = at called 1

abbrev word : List ℕ → X
word called = named (name called)

abbrev item : Body → Item
item body = record { place = column 1; body = body }

abbrev i : Expr
i = field (column 1) (codes "i")

abbrev zero : Expr
zero = number (column 1) (pos 0)

-- `(2 * i + 1) % 3`
abbrev arithmetic : Expr
arithmetic = chain Product (column 1) (part false (chain Sum (column 1) (part false (chain Product (column 1) (part false (number (column 1) (pos 2)) (part false i no_parts))) (part false (number (column 1) (pos 1)) no_parts))) (part true (number (column 1) (pos 3)) no_parts))

-- `type L[i : Int, s : String]{nil(0), cons(1)}`
abbrev lists : Item
lists = item (sorts (record {
  name = name (codes "L");
  fields = record { name = name (codes "i"); sort = name (codes "Int") } ∷ record { name = name (codes "s"); sort = name (codes "String") } ∷ [];
  ctors = record { name = name (codes "nil"); rank = pos 0 } ∷ record { name = name (codes "cons"); rank = pos 1 } ∷ [];
}))

abbrev rule : List ℕ → List Name → Option Expr → List Demand → Rule
rule ctor vars guard given = record { ctor = name ctor; vars = vars; guard = guard; given = given }

-- `i < 0 and s = "a"`
abbrev guard : Expr
guard = chain Conjunction (column 1) (part false (compare (column 1) Less i zero) (part false (compare (column 1) Equal (field (column 1) (codes "s")) (text (column 1) (codes "a"))) no_parts))

-- `lang p : L { nil() | cons(y) where i < 0 and s = "a" given (p y) }`
abbrev p : Item
p = item (lang (record {
  name = name (codes "p");
  of = name (codes "L");
  rules =
      rule (codes "nil") [] None []
      ∷ rule (codes "cons") (name (codes "y") ∷ []) (Some guard) (record { language = name (codes "p"); child = name (codes "y") } ∷ [])
      ∷ [];
}))

-- `trans f : L -> L { nil() to (nil [0, s]) | cons(y) where true to (cons [(2 * i + 1) % 3, s] (f y)) | cons(y) to y }`
abbrev f : Item
f = item (trans (record {
  name = name (codes "f");
  from = name (codes "L");
  into = name (codes "L");
  rules =
      record { rule = rule (codes "nil") [] None []; out = node (name (codes "nil")) (zero ∷ field (column 1) (codes "s") ∷ []) no_out }
      ∷ record { rule = rule (codes "cons") (name (codes "y") ∷ []) (Some (truth (column 1) true)) []; out = node (name (codes "cons")) (arithmetic ∷ field (column 1) (codes "s") ∷ []) (and_out (call (name (codes "f")) (name (codes "y"))) no_out) }
      ∷ record { rule = rule (codes "cons") (name (codes "y") ∷ []) None []; out = child (name (codes "y")) }
      ∷ [];
}))

-- `(nil [0, "a"])`, and one of a constructor with a child
abbrev leaf : X
leaf = literal (name (codes "nil")) (zero ∷ text (column 1) (codes "a") ∷ []) no_x

abbrev longer : X
longer = literal (name (codes "cons")) (number (column 1) (pos 1) ∷ text (column 1) (codes "b") ∷ []) (and_x (one GetWitness (column 1) (word (codes "p"))) no_x)

-- `tree NAME : L := VALUE`
abbrev a_tree : List ℕ → X → Item
a_tree called value = item (tree (record { name = name called; of = name (codes "L"); value = value }))

abbrev claim : Claim → Item
claim c = item (assertion (record { wanted = true; claim = c }))

abbrev good : List Item
good =
    lists ∷ p ∷ f
    ∷ item (def (record { name = name (codes "g"); from = name (codes "L"); into = Some (name (codes "L")); value = two Compose (column 1) (word (codes "f")) (word (codes "f")) }))
    ∷ item (def (record { name = name (codes "q"); from = name (codes "L"); into = None; value = two Intersect (column 1) (word (codes "p")) (two PreImage (column 1) (word (codes "g")) (word (codes "p"))) }))
    ∷ a_tree (codes "t") longer
    ∷ a_tree (codes "u") (two Apply (column 1) (word (codes "g")) (literal (name (codes "cons")) (zero ∷ text (column 1) (codes "c") ∷ []) (and_x (word (codes "t")) no_x)))
    ∷ claim (equal (word (codes "p")) (word (codes "q")))
    ∷ claim (member leaf (word (codes "p")))
    ∷ claim (empty (word (codes "g")))
    ∷ claim (empty (word (codes "q")))
    ∷ claim (type_check (word (codes "p")) (word (codes "g")) (word (codes "q")))
    ∷ []

-- the program's first item, and a language with one guard
abbrev guarded : Expr → List Item
guarded e = lists ∷ item (lang (record { name = name (codes "r"); of = name (codes "L"); rules = rule (codes "nil") [] (Some e) [] ∷ [] })) ∷ []

pub record AreJudged : Type 0 where
  pub good : is_well_formed good ≡ true
  -- the place decides before the code
  pub earlier_place : Refused (guarded (compare (column 9) Equal (field (column 7) (codes "i")) (chain Product (column 5) (part false (field (column 4) (codes "i")) (part false (field (column 6) (codes "i")) no_parts))))) NotLinear 5
  -- at one place the code decides: the guard is no truth value, and both sides of its product have a field
  pub lesser_code : Refused (guarded (chain Product (column 5) (part false (field (column 4) (codes "i")) (part false (field (column 6) (codes "i")) no_parts)))) WrongSort 5
  -- where a language is needed a tree is of the wrong kind, and nothing is said of its constructor
  pub no_language : Refused (lists ∷ p ∷ claim (equal (word (codes "p")) (literal (at (codes "none") 7) [] no_x)) ∷ []) WrongKind 7
  -- where a tree is needed its constructor is one of the type's
  pub no_constructor : Refused (lists ∷ p ∷ claim (member (literal (at (codes "none") 7) [] no_x) (word (codes "p"))) ∷ []) UnknownName 7
  -- `2147483648 * i` has no form, so nothing is said of the sum that it stands in
  pub no_form : Refused (guarded (compare (column 9) Equal (chain Sum (column 6) (part false (number (column 5) (pos 1)) (part false (chain Product (column 8) (part false (number (column 7) (pos 2147483648)) (part false (field (column 9) (codes "i")) no_parts))) no_parts))) (number (column 10) (pos 0)))) NumberRange 8
