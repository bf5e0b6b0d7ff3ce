-- Which names a name reaches, which definitions it opens, and on which names an expression depends.
use Rattle.std.specs.Prelude.{◌≡◌, ◌⊎◌, ℕ, List, Option, Some, None}
use Rattle.std.specs.List.{Contains}
use Rattle.std.specs.Option.{option_and_then}
use Rattle.model_program.specs.Syntax.{Demand}
use Rattle.model_grammar.specs.Syntax.{X, named, one, two, literal, Xs, no_x, and_x, Out, child, call, node, Outs, no_out, and_out, Rule, OutRule, Body, sorts, tree, lang, trans, def, assertion, Item}
use Rattle.model_names.specs.Declared.{find_item, rules_of, out_rules_of}

abbrev mutual
  -- the name stands in the expression
  pub IsNamedIn : X → List ℕ → Type 0
  IsNamedIn (named n) name = n.text ≡ name
  IsNamedIn (one op place x) name = IsNamedIn x name
  IsNamedIn (two op place x y) name = IsNamedIn x name ⊎ IsNamedIn y name
  IsNamedIn (literal ctor labels xs) name = IsNamedInOne xs name

  pub IsNamedInOne : Xs → List ℕ → Type 0
  IsNamedInOne no_x name = ⊥
  IsNamedInOne (and_x x xs) name = IsNamedIn x name ⊎ IsNamedInOne xs name

abbrev mutual
  -- the term calls the transformation with this name
  pub IsCalledIn : Out → List ℕ → Type 0
  IsCalledIn (child y) q = ⊥
  IsCalledIn (call p y) q = p.text ≡ q
  IsCalledIn (node name labels outs) q = IsCalledInOne outs q

  pub IsCalledInOne : Outs → List ℕ → Type 0
  IsCalledInOne no_out q = ⊥
  IsCalledInOne (and_out out outs) q = IsCalledIn out q ⊎ IsCalledInOne outs q

-- the expression of an item that is a definition
abbrev pub own_value : Body → Option X
own_value (sorts t) = None
own_value (tree t) = None
own_value (lang l) = None
own_value (trans t) = None
own_value (def d) = Some d.value
own_value (assertion a) = None

abbrev pub definition_of : List Item → List ℕ → Option X
definition_of items name = option_and_then (λ item. own_value item.body) (find_item items name)

-- A name reaches itself; and of a name that it reaches, the languages that are demanded by its rules and the
-- transformations that are called in them. A definition has no rules, so nothing is reached through it.
pub data Reaches (items : List Item) (name : List ℕ) : List ℕ → Type 0 where
  itself : Reaches items name name
  by_demand : (other : List ℕ) (r : Rule) (d : Demand) → Reaches items name other → Contains (rules_of items other) r → Contains r.given d → Reaches items name d.language.text
  by_lookahead : (other : List ℕ) (r : OutRule) (d : Demand) → Reaches items name other → Contains (out_rules_of items other) r → Contains r.rule.given d → Reaches items name d.language.text
  by_call : (other : List ℕ) (r : OutRule) (q : List ℕ) → Reaches items name other → Contains (out_rules_of items other) r → IsCalledIn r.out q → Reaches items name q

-- the name reaches a definition with this expression; that of a definition reaches itself
pub record Opens (items : List Item) (name : List ℕ) (x : X) : Type 0 where
  pub definition : List ℕ
  pub reached : Reaches items name definition
  pub is : definition_of items definition ≡ Some x

-- An expression depends on the names in it, on what they reach, and on what the expressions of definitions among these depend on.
pub data DependsOn (items : List Item) : X → List ℕ → Type 0 where
  on_name : (x : X) (n m : List ℕ) → IsNamedIn x n → Reaches items n m → DependsOn items x m
  by_definition : (x y : X) (n m : List ℕ) → IsNamedIn x n → Opens items n y → DependsOn items y m → DependsOn items x m
