-- Expressions of known values, over a text, a truth value and a number.
use Rattle.std.specs.Prelude.{◌≡◌, pos, negsuc, true, false, List, [], ◌∷◌, codes}
use Rattle.fast_fault.specs.declared.place.Pos.{Pos}
use Rattle.model_tree.specs.Label.{Field, whole, truth, text}
use Rattle.model_tree.specs.Signature.{wholes, truths, texts, PlainField}
use Rattle.model_grammar.specs.declared.Rel.TheVariants.{Equal, NotEqual, Less}
use Rattle.model_grammar.specs.declared.Chain.TheVariants.{Disjunction, Conjunction, Sum, Product}
use Rattle.model_grammar.specs.Syntax.{Expr, field, number, negation, compare, minus, chain, Parts, no_parts, part}
use Rattle.model_grammar.specs.Syntax as syntax
use Rattle.model_label.specs.Meaning.{value_of}

abbrev here : Pos
here = record { line = 1; column = 1 }

abbrev fields : List PlainField
fields = record { name = codes "s"; sort = texts } ∷ record { name = codes "b"; sort = truths } ∷ record { name = codes "x"; sort = wholes } ∷ []

abbrev values : List Field
values = text (codes "a") ∷ truth true ∷ whole (negsuc 6) ∷ []

-- `s = "a"`
abbrev is_a : Expr
is_a = compare here Equal (field here (codes "s")) (syntax.text here (codes "a"))

-- `s != ""`
abbrev is_not_empty : Expr
is_not_empty = compare here NotEqual (field here (codes "s")) (syntax.text here (codes ""))

-- `not b or s != ""`
abbrev is_either : Expr
is_either = chain Disjunction here (part false (negation here (field here (codes "b"))) (part false is_not_empty no_parts))

-- `not b and s != ""`
abbrev is_both : Expr
is_both = chain Conjunction here (part false (negation here (field here (codes "b"))) (part false is_not_empty no_parts))

-- `b = (s = "a")`
abbrev is_same : Expr
is_same = compare here Equal (field here (codes "b")) is_a

-- `x % 3 * 2 - x`, with x being -7
abbrev number_of : Expr
number_of = chain Sum here (part false (chain Product here (part false (field here (codes "x")) (part true (number here (pos 3)) (part false (number here (pos 2)) no_parts)))) (part true (field here (codes "x")) no_parts))

-- `x < 0`
abbrev is_negative : Expr
is_negative = compare here Less (field here (codes "x")) (number here (pos 0))

pub record HaveValues : Type 0 where
  pub equal : value_of fields values is_a ≡ truth true
  pub not_equal : value_of fields values is_not_empty ≡ truth true
  pub either : value_of fields values is_either ≡ truth true
  pub both : value_of fields values is_both ≡ truth false
  pub same : value_of fields values is_same ≡ truth true
  pub arithmetic : value_of fields values number_of ≡ whole (pos 11)
  pub less : value_of fields values is_negative ≡ truth true
