-- Three languages over lists of numbers, and trees that are in them or not.
use Rattle.std.specs.Prelude.{◌≡◌, ℕ, pos, negsuc, true, false, List, [], ◌∷◌, Option, Some, None, codes}
use Rattle.fast_fault.specs.declared.place.Pos.{Pos}
use Rattle.model_tree.specs.Label.{whole, row}
use Rattle.model_tree.specs.Tree.{node, no_trees, tree, LabelTree}
use Rattle.model_program.specs.Syntax.{Name, Demand}
use Rattle.model_grammar.specs.declared.Rel.TheVariants.{Less}
use Rattle.model_grammar.specs.Syntax.{Expr, field, number, compare, Rule, Item, sorts, lang}
use Rattle.model_meaning.specs.Languages.{is_in}

abbrev here : Pos
here = record { line = 1; column = 1 }

abbrev name : List ℕ → Name
name text = record { text = text; place = here }

abbrev rule : List ℕ → List Name → Option Expr → List Demand → Rule
rule ctor vars guard given = record { ctor = name ctor; vars = vars; guard = guard; given = given }

abbrev y : Name
y = name (codes "y")

abbrev in_child : List ℕ → Demand
in_child language = record { language = name language; child = y }

abbrev lang_item : List ℕ → List Rule → Item
lang_item text rules = record { place = here; body = lang (record { name = name text; of = name (codes "L"); rules = rules }) }

-- `i < 0`
abbrev is_negative : Expr
is_negative = compare here Less (field here (codes "i")) (number here (pos 0))

-- `type L[i : Int]{nil(0), cons(1)}`
-- `lang even : L { nil() | cons(y) given (odd y) }`
-- `lang odd : L { cons(y) given (even y) }`
-- `lang both : L { cons(y) where i < 0 given (even y) (odd y) | nil() }`
abbrev items : List Item
items =
    record { place = here; body = sorts (record { name = name (codes "L"); fields = record { name = name (codes "i"); sort = name (codes "Int") } ∷ []; ctors = record { name = name (codes "nil"); rank = pos 0 } ∷ record { name = name (codes "cons"); rank = pos 1 } ∷ [] }) }
    ∷ lang_item (codes "even") (rule (codes "nil") [] None [] ∷ rule (codes "cons") (y ∷ []) None (in_child (codes "odd") ∷ []) ∷ [])
    ∷ lang_item (codes "odd") (rule (codes "cons") (y ∷ []) None (in_child (codes "even") ∷ []) ∷ [])
    ∷ lang_item (codes "both") (rule (codes "cons") (y ∷ []) (Some is_negative) (in_child (codes "even") ∷ in_child (codes "odd") ∷ []) ∷ rule (codes "nil") [] None [] ∷ [])
    ∷ []

-- `(nil [0])`, `(cons [-1] (nil [0]))` and `(cons [5] (cons [-1] (nil [0])))`
abbrev none : LabelTree
none = node 0 (row (whole (pos 0) ∷ [])) no_trees

abbrev one : LabelTree
one = node 1 (row (whole (negsuc 0) ∷ [])) (tree none no_trees)

abbrev two : LabelTree
two = node 1 (row (whole (pos 5) ∷ [])) (tree one no_trees)

pub record AreInTheirLanguages : Type 0 where
  pub none_is_even : is_in items none (codes "even") ≡ true
  pub one_is_odd : is_in items one (codes "odd") ≡ true
  pub one_is_not_even : is_in items one (codes "even") ≡ false
  pub two_is_even : is_in items two (codes "even") ≡ true
  pub no_child_is_both : is_in items one (codes "both") ≡ false
  pub leaf_is_both : is_in items none (codes "both") ≡ true
