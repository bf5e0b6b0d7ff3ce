-- Comparisons that ask for equality, and label expressions that are texts.
use Rattle.std.specs.Prelude.{Bool, true, false, List}
use Rattle.model_tree.specs.Signature.{texts, PlainField}
use Rattle.model_grammar.specs.declared.Rel.{Rel}
use Rattle.model_grammar.specs.declared.Rel.TheVariants.{Equal, NotEqual, Less, AtMost, Greater, AtLeast}
use Rattle.model_grammar.specs.Syntax.{Expr, field, number, text, truth, negation, compare, minus, chain}
use Rattle.model_label.specs.Fields.{has_field}

-- whether a comparison asks for equality
abbrev pub is_equality : Rel → Bool
is_equality Equal = true
is_equality NotEqual = true
is_equality Less = false
is_equality AtMost = false
is_equality Greater = false
is_equality AtLeast = false

module _ (fields : List PlainField) where
  -- a field that is a text, or a constant text
  abbrev pub is_text : Expr → Bool
  is_text (field place name) = has_field fields texts name
  is_text (number place n) = false
  is_text (text place t) = true
  is_text (truth place b) = false
  is_text (negation place e) = false
  is_text (compare place rel a b) = false
  is_text (minus place e) = false
  is_text (chain kind place parts) = false
