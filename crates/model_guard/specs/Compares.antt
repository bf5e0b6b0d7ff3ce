-- The comparison of two whole numbers that a sign asks for.
use Rattle.model_grammar.specs.declared.Rel.{Rel}
use Rattle.model_grammar.specs.declared.Rel.TheVariants.{Equal, NotEqual, Less, AtMost, Greater, AtLeast}
use Rattle.model_form.specs.Form.{Form}
use Rattle.model_chain.specs.Literals.{Compare, less, at_most, equal}

-- `a > b` is `b < a`, `a >= b` is `b <= a`, and `a != b` is `a = b` negated
abbrev pub comparison : Rel → Form → Form → Compare
comparison Equal a b = record { left = a; relation = equal; right = b }
comparison NotEqual a b = record { left = a; relation = equal; right = b }
comparison Less a b = record { left = a; relation = less; right = b }
comparison AtMost a b = record { left = a; relation = at_most; right = b }
comparison Greater a b = record { left = b; relation = less; right = a }
comparison AtLeast a b = record { left = b; relation = at_most; right = a }
